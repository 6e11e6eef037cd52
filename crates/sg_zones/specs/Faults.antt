-- The zone faults: of the least kind, and within it of the least place.
use Rattle.std.specs.Prelude.{◌==◌, ◌&&◌, ◌||◌, not, ℕ, ◌+◌, Bool, true, false, if◌then◌else◌, slice_index_or, Option, None, Some, is_none, is_some, option_map, Result, Ok, Err, List, [], ◌∷◌}
use Rattle.std.specs.Option.{option_map_or, option_or}
use Rattle.sg_base.specs.declared.ids.Child.{Child}
use Rattle.sg_base.specs.declared.ids.Child.TheVariants.{Point, Zone}
use Rattle.sg_base.specs.declared.ids.PointId.{PointId}
use Rattle.sg_base.specs.declared.ids.ZoneId.{ZoneId}
use Rattle.sg_platform_rows.specs.Platform.{Platform}
use Rattle.sg_platform_rows.specs.declared.rows.Routing.{Routing}
use Rattle.sg_platform_rows.specs.declared.rows.Routing.TheVariants.{Full, Star, Dijkstra}
use Rattle.sg_platform_rows.specs.declared.rows.RouteRow.{RouteRow}
use Rattle.sg_platform_rows.specs.declared.rows.SpokeRow.{SpokeRow}
use Rattle.sg_platform_rows.specs.declared.rows.ZoneRouteRow.{ZoneRouteRow}
use Rattle.sg_platform_rows.specs.declared.rows.ZoneRow.{ZoneRow}
use Rattle.sg_toml_tree.specs.Along.{first}
use Rattle.sg_toml_tree.specs.declared.fault.Place.{Place}
use Rattle.sg_zones.specs.Paths.{ancestors_of}
use Rattle.sg_zones.specs.Tree.{Tree, zone_tree, home, holds, routing_in}
use Rattle.sg_zones.specs.declared.fault.ZoneFault.{ZoneFault}
use Rattle.sg_zones.specs.declared.fault.ZoneFault.TheVariants.{NoRoot, TwoRoots, ParentCycle, TooDeep, GatewayOutside, WrongRouting}

-- where a fault is: its table, its row and its key, each numbered from 1 on, 0 for none
abbrev pub place : ℕ → ℕ → ℕ → Place
place table row key = record { table = table; row = row; key = key }

-- the first fault along the rows, which are numbered from this number on
abbrev pub first_along : {X : Type 0} → (ℕ → X → Option ZoneFault) → ℕ → List X → Option ZoneFault
first_along told row [] = None
first_along told row (x ∷ xs) = option_or (told row x) (first_along told (row + 1) xs)

-- this fault if the condition holds, else none
abbrev pub fault_if : Bool → ZoneFault → Option ZoneFault
fault_if b fault = if b then Some fault else None

-- ---- the tree

-- the rows of zones without a parent, if the first of these rows has this number
abbrev pub roots : ℕ → List ZoneRow → List ℕ
roots row [] = []
roots row (zone ∷ zones) = if is_none zone.parent then row ∷ roots (row + 1) zones else roots (row + 1) zones

-- there is one root
abbrev pub root_fault : List ℕ → Option ZoneFault
root_fault [] = Some (NoRoot (place 1 0 0))
root_fault (root ∷ others) = option_map (λ second. TwoRoots (place 1 second 2)) (first others)

-- the zone of this row still has a zone above it after some steps up
abbrev pub ancestor_fault : (Place → ZoneFault) → ℕ → Option ZoneId → Option ZoneFault
ancestor_fault fault row ancestor = fault_if (is_some ancestor) (fault (place 1 (row + 1) 2))

-- ---- gateways

-- a point holds itself alone
abbrev pub child_holds : Tree → Child → PointId → Bool
child_holds t (Point own) point = own.0 == point.0
child_holds t (Zone zone) point = holds t zone point

-- the gateway isn't held by its end
abbrev pub gateway_fault : Tree → Child → PointId → Place → Option ZoneFault
gateway_fault t end gateway at = fault_if (not (child_holds t end gateway)) (GatewayOutside at)

-- the fault of a zone_route, one of whose gateways is outside the child at that end
abbrev pub zone_route_gateway_fault : Tree → ℕ → ZoneRouteRow → Option ZoneFault
zone_route_gateway_fault t row r = option_or (gateway_fault t r.src r.gw_src (place 6 (row + 1) 3)) (gateway_fault t r.dst r.gw_dst (place 6 (row + 1) 4))

-- the fault of a spoke whose gateway is outside its child
abbrev pub spoke_gateway_fault : Tree → ℕ → SpokeRow → Option ZoneFault
spoke_gateway_fault t row s = gateway_fault t s.child s.gateway (place 7 (row + 1) 3)

-- ---- routing

-- whether a routing is this one. Local routes are those that rows declare (Full), they go up one spoke and down another
-- (Star), or they are shortest paths over the declared ones (Dijkstra)
abbrev pub is_routing : Routing → Routing → Bool
is_routing Full Full = true
is_routing Star Star = true
is_routing Dijkstra Dijkstra = true
is_routing this other = false

-- the zone whose child this is; the root is no child
abbrev pub zone_above : Tree → Child → Option ZoneId
zone_above t (Point point) = Some (home t point)
zone_above t (Zone zone) = slice_index_or t.parents zone.0 None

-- both stand in one zone, and it is Full
abbrev pub in_one_full : Tree → Option ZoneId → Option ZoneId → Bool
in_one_full t (Some a) (Some b) = a.0 == b.0 && is_routing Full (routing_in t a)
in_one_full t a b = false

-- whether a child of a zone is a host or router, and not a zone
abbrev pub is_point : Child → Bool
is_point (Point point) = true
is_point (Zone zone) = false

-- no zone stands in a Dijkstra zone
abbrev pub child_zone_fault : Tree → ℕ → ZoneRow → Option ZoneFault
child_zone_fault t row z = fault_if (option_map_or (λ above. is_routing Dijkstra (routing_in t above)) z.parent false) (WrongRouting (place 1 (row + 1) 1))

-- both are one zone, and it has routes between points: it is Full or Dijkstra
abbrev pub in_one_routed : Tree → ZoneId → ZoneId → Bool
in_one_routed t a b = a.0 == b.0 && not (is_routing Star (routing_in t a))

-- the ends of a route stand in one Full or Dijkstra zone
abbrev pub route_fault : Tree → ℕ → RouteRow → Option ZoneFault
route_fault t row r = fault_if (not (in_one_routed t (home t r.src) (home t r.dst))) (WrongRouting (place 5 (row + 1) 1))

-- those of a zone_route are children of one Full zone, and not both points
abbrev pub zone_route_fault : Tree → ℕ → ZoneRouteRow → Option ZoneFault
zone_route_fault t row r =
    fault_if (not (in_one_full t (zone_above t r.src) (zone_above t r.dst)) || is_point r.src && is_point r.dst)
    (WrongRouting (place 6 (row + 1) 1))

-- the zone of a spoke is Star, and the child is its child
abbrev pub spoke_fault : Tree → ℕ → SpokeRow → Option ZoneFault
spoke_fault t row s =
    fault_if (not (is_routing Star (routing_in t s.zone)) || not (option_map_or (λ above. above.0 == s.zone.0) (zone_above t s.child) false))
    (WrongRouting (place 7 (row + 1) 1))

-- ---- the least kind, and within it the least place

-- a zone from which 1,024 steps up don't leave the tree never reaches the root, as there are no more zones; one from which
-- 16 don't is deeper than 16
abbrev pub tree_fault : List ZoneRow → Option ZoneFault
tree_fault zones =
    option_or (root_fault (roots 1 zones))
    (option_or (first_along (ancestor_fault ParentCycle) 0 (ancestors_of 1024 zones))
    (first_along (ancestor_fault TooDeep) 0 (ancestors_of 16 zones)))

-- the first fault of the rows: gateways outside first, then routing that doesn't fit
abbrev pub row_fault : Tree → Platform → Option ZoneFault
row_fault t p =
    option_or (first_along (zone_route_gateway_fault t) 0 p.zone_routes)
    (option_or (first_along (spoke_gateway_fault t) 0 p.spokes)
    (option_or (first_along (child_zone_fault t) 0 p.zones)
    (option_or (first_along (route_fault t) 0 p.routes)
    (option_or (first_along (zone_route_fault t) 0 p.zone_routes)
    (first_along (spoke_fault t) 0 p.spokes)))))

-- the first fault of the zones of a platform: those of the tree come before those of the rows
abbrev pub zone_fault : Platform → Option ZoneFault
zone_fault p = option_or (tree_fault p.zones) (row_fault (zone_tree p) p)

-- the tree of the rows, or their first fault
abbrev pub zones_of : Platform → Result Tree ZoneFault
zones_of p = option_map_or Err (zone_fault p) (Ok (zone_tree p))
