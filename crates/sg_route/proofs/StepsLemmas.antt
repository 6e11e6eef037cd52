-- Steps join points that there are.
use Rattle.sg_platform_rows.specs.declared.rows.Routing.TheVariants.{Dijkstra}
use Rattle.std.specs.List.{flat_map}
use Rattle.std.proofs.Common.{◌≡◌, ◌+◌, ◌<◌, Bool, true, false, cond, List, [], ◌∷◌, length, length-append, arith}
use Rattle.std.specs.Prelude.{All, map}
use Rattle.std.proofs.lemmas.List.{length-map}
use Rattle.sg_base.specs.declared.ids.Child.{Child}
use Rattle.sg_base.specs.declared.ids.Child.TheVariants.{Point, Zone}
use Rattle.sg_base.specs.declared.ids.LinkId.{LinkId}
use Rattle.sg_base.specs.declared.ids.ZoneId.{ZoneId}
use Rattle.sg_paths.specs.declared.route.PathRoute.{PathRoute}
use Rattle.sg_platform_rows.specs.Ends.{link_ends}
use Rattle.sg_platform_rows.specs.Platform.{IsChild, IsPlatform, Platform, counts_of}
use Rattle.sg_platform_rows.specs.declared.rows.HostRow.{HostRow}
use Rattle.sg_platform_rows.specs.declared.rows.RouteRow.{RouteRow}
use Rattle.sg_platform_rows.specs.declared.rows.RouterRow.{RouterRow}
use Rattle.sg_platform_rows.specs.declared.rows.ZoneRouteRow.{ZoneRouteRow}
use Rattle.sg_route.specs.Local.{row_locals, route_local, zone_route_local}
use Rattle.sg_route.specs.Roads.{roads_of}
use Rattle.sg_route.specs.PathRoutes.{path_routes_between, path_routes}
use Rattle.sg_route.specs.declared.locals.Local.{Local}
use Rattle.sg_route.specs.declared.locals.Pair.{Pair}
use Rattle.sg_route.proofs.Each.{each_all, each_flat, each_from}
use Rattle.sg_zones.proofs.Each.{Each, each_append}
use Rattle.sg_zones.specs.Faults.{is_routing}
use Rattle.sg_zones.specs.Tree.{home, routing_in, zone_tree}

-- both children are there
record Joins (p : Platform) (pair : Pair) : Type 0 where
  from : IsChild (counts_of p) pair.from
  to : IsChild (counts_of p) pair.to

declared_joins : (p : Platform) (both : Bool) (l : Local) → Joins p l.pair → Each (λ l. Joins p l.pair) (row_locals (link_ends p.links) both l)
declared_joins p false l joins = (joins, tt)
declared_joins p true l joins = (joins, (record { from = joins.to; to = joins.from }, tt))

locals_join : (p : Platform) → IsPlatform p → Each (λ l. Joins p l.pair) (roads_of p).locals
locals_join p kept =
    let J : Local → Type 0 = λ l. Joins p l.pair in
    let R : RouteRow → Type 0 = λ r. Joins p (route_local r).pair in
    let Z : ZoneRouteRow → Type 0 = λ r. Joins p (zone_route_local r).pair in
    each_append J (flat_map (λ row. row_locals (link_ends p.links) row.symmetrical (route_local row)) p.routes)
    (flat_map (λ row. row_locals (link_ends p.links) row.symmetrical (zone_route_local row)) p.zone_routes)
    (each_flat J R (λ row. row_locals (link_ends p.links) row.symmetrical (route_local row)) p.routes (λ r k. declared_joins p r.symmetrical (route_local r) k)
    (each_from R p.routes (λ k d few. let r = kept.routes k d few in record { from = r.src; to = r.dst })))
    (each_flat J Z (λ row. row_locals (link_ends p.links) row.symmetrical (zone_route_local row)) p.zone_routes (λ r k. declared_joins p r.symmetrical (zone_route_local r) k)
    (each_from Z p.zone_routes (λ k d few. let r = kept.zone_routes k d few in record { from = r.src; to = r.dst })))

abbrev pub IsWithin : Platform → PathRoute → Type 0
IsWithin p r = (r.from < (counts_of p).points) × (r.to < (counts_of p).points)

pub steps_join : (p : Platform) → IsPlatform p → Each (IsWithin p) (path_routes (zone_tree p) (roads_of p).locals)
steps_join p kept =
    each_flat (IsWithin p) (λ l. Joins p l.pair) (λ l. path_routes_between (zone_tree p) l.pair.from l.pair.to l.links) (roads_of p).locals (λ l joins. one l.pair.from l.pair.to l.links joins.from joins.to) (locals_join p kept)
  where
    one : (from to : Child) (links : List LinkId) → IsChild (counts_of p) from → IsChild (counts_of p) to → Each (IsWithin p) (path_routes_between (zone_tree p) from to links)
    one (Zone a) to links f t = tt
    one (Point a) (Zone b) links f t = tt
    one (Point a) (Point b) links f t = go (is_routing Dijkstra (routing_in (zone_tree p) (home (zone_tree p) a)))
      where
        go : (t : Bool) → Each (IsWithin p) (cond t (record { from = a.0; to = b.0; links = links } ∷ []) [])
        go true = ((f, t), tt)
        go false = tt

pub steps_within : (p : Platform) → IsPlatform p → All (λ r. (r.from < (counts_of p).points) × (r.to < (counts_of p).points)) (path_routes (zone_tree p) (roads_of p).locals)
steps_within p kept = each_all (IsWithin p) (path_routes (zone_tree p) (roads_of p).locals) (steps_join p kept)

-- the points are the hosts and the routers
pub points_count : (p : Platform) → length (zone_tree p).homes ≡ length p.hosts + length p.routers
points_count p =
    let hosts : List ZoneId = map (λ (row : HostRow). row.zone) p.hosts in
    let routers : List ZoneId = map (λ (row : RouterRow). row.zone) p.routers in
    omega (arith, length-append hosts routers, length-map p.hosts (λ (row : HostRow). row.zone), length-map p.routers (λ (row : RouterRow). row.zone))
