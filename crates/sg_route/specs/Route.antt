-- The route between two points.
use Rattle.std.specs.Prelude.{◌≡◌, ◌==◌, ℕ, suc, zero, ◌-◌, if◌then◌else◌, nat_lt, Option, None, Some, option_map, Result, Ok, Err, List, [], ◌∷◌, ◌++◌, length, slice_index_or, sum_by}
use Rattle.std.specs.Option.{option_map_or}
use Rattle.sg_base.specs.declared.ids.LinkId.{LinkId}
use Rattle.sg_base.specs.declared.ids.PointId.{PointId}
use Rattle.sg_base.specs.declared.ids.Child.{Child}
use Rattle.sg_base.specs.declared.ids.Child.TheVariants.{Point}
use Rattle.sg_platform_rows.specs.declared.rows.Routing.{Routing}
use Rattle.sg_platform_rows.specs.declared.rows.Routing.TheVariants.{Full, Star, Dijkstra}
use Rattle.sg_platform_rows.specs.declared.rows.SpokeRow.{SpokeRow}
use Rattle.sg_platform_rows.specs.Ends.{link_end}
use Rattle.sg_paths.specs.Least.{least_path}
use Rattle.sg_paths.specs.declared.route.PathRoute.{PathRoute}
use Rattle.sg_route.specs.declared.leg.Leg.{Leg}
use Rattle.sg_route.specs.declared.router.RouteFault.{RouteFault}
use Rattle.sg_route.specs.declared.router.RouteFault.TheVariants.{NoRoute, TooLong}
use Rattle.sg_route.specs.DistinctLinks.{distinct_links}
use Rattle.sg_route.specs.Leg.{lowest_leg}
use Rattle.sg_route.specs.Local.{declared_route, spoke_at}
use Rattle.sg_route.specs.Roads.{Roads}
use Rattle.sg_route.specs.PathRoutes.{path_routes}
use Rattle.sg_zones.specs.Tree.{home, path_in, routing_in}

-- ---- the local route from one child of a zone to another

-- the gateways at which a local route begins and ends, and its links
pub record Passage : Type 0 where
  pub start : PointId
  pub end : PointId
  pub links : List LinkId

-- up from the one child and down to the other
abbrev pub by_spokes : Option SpokeRow → Option SpokeRow → Option Passage
by_spokes (Some from) (Some to) = Some (record { start = from.gateway; end = to.gateway; links = from.up ++ to.down })
by_spokes from to = None

-- the shortest path from a point to another: it begins and ends at the points themselves
abbrev pub by_path : List PathRoute → Child → Child → Option Passage
by_path steps (Point a) (Point b) =
    if a.0 == b.0 then None else option_map (λ links. record { start = a; end = b; links = links }) (least_path steps a.0 b.0)
by_path steps from to = None

-- the local route between two children of a zone, by its routing: declared, over spokes, or shortest path
abbrev pub passage : Roads → Routing → Child → Child → Option Passage
passage m Full from to =
    option_map (λ l. record { start = l.start; end = l.end; links = l.links }) (declared_route m.locals (record { from = from; to = to }))
passage m Star from to = by_spokes (spoke_at m.spokes from) (spoke_at m.spokes to)
passage m Dijkstra from to = by_path (path_routes m.tree m.locals) from to

-- ---- whole routes

-- the lowest zone that holds both points, and its children that hold them
abbrev pub leg : Roads → PointId → PointId → Leg
leg m a b = lowest_leg (home m.tree a) a b (path_in m.tree (home m.tree a)) (path_in m.tree (home m.tree b))

-- the local route of a leg, in the zone of that leg; none: it is missing
abbrev pub passage_on : Roads → Leg → Option Passage
passage_on m l = passage m (routing_in m.tree l.zone) l.from l.to

-- the links of a whole route, or the leg whose local route is missing
abbrev pub RouteLinks : Type 0
RouteLinks = Result (List LinkId) Leg

-- the route before, the local route and the route after; if several parts are missing, the earlier one is reported
abbrev pub route_over : RouteLinks → List LinkId → RouteLinks → RouteLinks
route_over (Err missing) links behind = Err missing
route_over (Ok front) links (Err missing) = Err missing
route_over (Ok front) links (Ok behind) = Ok (front ++ links ++ behind)

-- no links from a point to itself
abbrev pub unless_there : (PointId → PointId → RouteLinks) → PointId → PointId → RouteLinks
unless_there way a b = if a.0 == b.0 then Ok [] else way a b

-- The route from a to another point b: the local route of the lowest zone that holds both, between its children that
-- hold them; before it the route from a to its first gateway, and after it that from its second gateway to b. If the
-- local route is missing, this is reported ahead of all others.
abbrev pub through_lowest : (PointId → PointId → RouteLinks) → Roads → PointId → PointId → RouteLinks
through_lowest way m a b =
    option_map_or (λ p. route_over (unless_there way a p.start) p.links (unless_there way p.end b)) (passage_on m (leg m a b)) (Err (leg m a b))

-- such a route through so many levels of zones
unfoldable pub way : ℕ → Roads → PointId → PointId → RouteLinks
way zero m a b = Ok []
way (suc levels) m a b = through_lowest (way levels m) m a b

-- ---- from a host to itself

-- the loopback is the last link
abbrev pub loopback : Roads → LinkId
loopback m = record { 0 = length m.ends - 1 }

-- the route that a Full zone declares for it, else the loopback
abbrev pub to_itself : Roads → Routing → PointId → List LinkId
to_itself m Full a = option_map_or (λ l. l.links) (declared_route m.locals (record { from = Point a; to = Point a })) (loopback m ∷ [])
to_itself m other a = loopback m ∷ []

-- ---- what is answered

-- the latency of a link, in nanoseconds
abbrev pub latency_of : Roads → LinkId → ℕ
latency_of m link = (slice_index_or m.ends link.0 (link_end 0 0)).latency

-- the answer for two hosts: the distinct links on the route, and the sum of their latencies
pub record Route : Type 0 where
  pub links : List LinkId
  pub latency : ℕ

-- each link counts once, at its first place; a route that misses nothing and has over 64 links is too long
abbrev pub route_or_fault : Roads → RouteLinks → Result Route RouteFault
route_or_fault m (Err missing) = Err (NoRoute missing.zone missing.from missing.to)
route_or_fault m (Ok links) =
    if nat_lt 64 (length (distinct_links [] links)) then Err TooLong
    else Ok (record { links = distinct_links [] links; latency = sum_by (latency_of m) (distinct_links [] links) })

-- the links from a point to another, or from a host to itself; zones are at most 16 deep
unfoldable pub whole_way : Roads → PointId → PointId → RouteLinks
whole_way m a b = if a.0 == b.0 then Ok (to_itself m (routing_in m.tree (home m.tree a)) a) else way 16 m a b

-- the route between two hosts, or why there is none: a local route is missing, or it is too long
unfoldable pub route_of : Roads → PointId → PointId → Result Route RouteFault
route_of m a b = route_or_fault m (whole_way m a b)

-- the latency and the links of the route, or the fault and no links
abbrev pub LeavesRoute : Result Route RouteFault → Result ℕ RouteFault → List LinkId → Type 0
LeavesRoute (Ok route) result links = (result ≡ Ok route.latency) × (links ≡ route.links)
LeavesRoute (Err fault) result links = (result ≡ Err fault) × (links ≡ [])
