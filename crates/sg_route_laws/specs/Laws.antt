-- Laws of routes.
use Rattle.std.specs.Prelude.{◌≡◌, ◌≢◌, ◌<◌, ◌≤◌, ◌++◌, true, false, None, Some, Ok, Err, List, MatchResult, length, All}
use Rattle.sg_base.specs.declared.ids.Child.{Child}
use Rattle.sg_base.specs.declared.ids.Child.TheVariants.{Point}
use Rattle.sg_base.specs.declared.ids.LinkId.{LinkId}
use Rattle.sg_base.specs.declared.ids.PointId.{PointId}
use Rattle.sg_base.specs.declared.ids.ZoneId.{ZoneId}
use Rattle.sg_platform_rows.specs.Ends.{link_ends, way_back}
use Rattle.sg_platform_rows.specs.Platform.{Platform}
use Rattle.sg_platform_rows.specs.declared.rows.Routing.TheVariants.{Full, Star, Dijkstra}
use Rattle.sg_platform_rows.specs.declared.rows.SpokeRow.{SpokeRow}
use Rattle.sg_route.specs.declared.leg.Leg.{Leg}
use Rattle.sg_route.specs.declared.locals.Local.{Local}
use Rattle.sg_route.specs.Equal.{child_eq}
use Rattle.sg_route.specs.Local.{declared_route, spoke_at}
use Rattle.sg_route.specs.Roads.{Roads, roads_of}
use Rattle.sg_paths.specs.Path.{HasNoPath, IsLeastPath}
use Rattle.sg_route.specs.Route.{leg, passage_on, through_lowest, whole_way}
use Rattle.sg_route.specs.PathRoutes.{path_routes}
use Rattle.sg_zones.specs.Faults.{child_holds, zone_above}
use Rattle.sg_zones.specs.Tree.{Tree, depth, holds, home, routing_in, zone_tree}

-- a host or a router of the platform
abbrev pub IsPoint : Roads → PointId → Type 0
IsPoint m point = point.0 < length m.tree.homes

-- whole routes, and the routes to and from gateways within them, are those of one rule
abbrev pub FollowsLowestZone : Roads → Type 0
FollowsLowestZone m = (a b : PointId) → IsPoint m a → IsPoint m b → a.0 ≢ b.0 → whole_way m a b ≡ through_lowest (whole_way m) m a b

-- the child of the zone that holds the point
pub record IsChildOver (t : Tree) (zone : ZoneId) (point : PointId) (child : Child) : Type 0 where
  pub above : zone_above t child ≡ Some zone
  pub held : child_holds t child point ≡ true

-- the zone holds both points, no deeper one does, and its children hold one each
pub record IsLowest (t : Tree) (a b : PointId) (l : Leg) : Type 0 where
  pub holds_a : holds t l.zone a ≡ true
  pub holds_b : holds t l.zone b ≡ true
  pub lowest : (other : ZoneId) → holds t other a ≡ true → holds t other b ≡ true → depth t other ≤ depth t l.zone
  pub from : IsChildOver t l.zone a l.from
  pub to : IsChildOver t l.zone b l.to

abbrev pub LegsAreLowest : Platform → Type 0
LegsAreLowest p = (a b : PointId) → IsPoint (roads_of p) a → IsPoint (roads_of p) b → IsLowest (zone_tree p) a b (leg (roads_of p) a b)

-- the links between two points that stand in one Star zone and have these spokes
abbrev pub StarGoesUpAndDown : Platform → Type 0
StarGoesUpAndDown p = (a b : PointId) (from to : SpokeRow) → IsPoint (roads_of p) a → IsPoint (roads_of p) b → a.0 ≢ b.0
    → home (zone_tree p) a ≡ home (zone_tree p) b → routing_in (zone_tree p) (home (zone_tree p) a) ≡ Star
    → spoke_at p.spokes (Point a) ≡ Some from → spoke_at p.spokes (Point b) ≡ Some to
    → whole_way (roads_of p) a b ≡ Ok (from.up ++ to.down)

-- the links between the gateways of two children of one Star zone
abbrev pub StarJoinsGateways : Platform → Type 0
StarJoinsGateways p = (from to : SpokeRow) (zone : ZoneId) → spoke_at p.spokes from.child ≡ Some from → spoke_at p.spokes to.child ≡ Some to
    → child_eq from.child to.child ≡ false → zone_above (zone_tree p) from.child ≡ Some zone → zone_above (zone_tree p) to.child ≡ Some zone
    → routing_in (zone_tree p) zone ≡ Star → whole_way (roads_of p) from.gateway to.gateway ≡ Ok (from.up ++ to.down)

-- the links between two points that stand in one Full zone, if it declares a local route
abbrev pub FullGoesAsDeclared : Platform → Type 0
FullGoesAsDeclared p = (a b : PointId) (l : Local) → IsPoint (roads_of p) a → IsPoint (roads_of p) b → a.0 ≢ b.0
    → home (zone_tree p) a ≡ home (zone_tree p) b → routing_in (zone_tree p) (home (zone_tree p) a) ≡ Full
    → declared_route (roads_of p).locals (record { from = Point a; to = Point b }) ≡ Some l
    → whole_way (roads_of p) a b ≡ Ok l.links

-- the links between the gateways of two children of one Full zone, if it declares a local route
abbrev pub FullJoinsGateways : Platform → Type 0
FullJoinsGateways p = (from to : Child) (l : Local) (zone : ZoneId)
    → declared_route (roads_of p).locals (record { from = from; to = to }) ≡ Some l → child_eq from to ≡ false
    → zone_above (zone_tree p) from ≡ Some zone → zone_above (zone_tree p) to ≡ Some zone
    → routing_in (zone_tree p) zone ≡ Full → whole_way (roads_of p) l.start l.end ≡ Ok l.links

-- the links between two points are those of a shortest path, or no path leads from the one to the
-- other
abbrev pub TakesLeastPath : Roads → PointId → PointId → Type 0
TakesLeastPath m a b = MatchResult (whole_way m a b)
    (λ links. IsLeastPath (path_routes m.tree m.locals) a.0 b.0 links)
    (λ missing. HasNoPath (path_routes m.tree m.locals) a.0 b.0)

-- so between any two that stand in one Dijkstra zone
abbrev pub DijkstraTakesLeastPaths : Platform → Type 0
DijkstraTakesLeastPaths p = (a b : PointId) → IsPoint (roads_of p) a → IsPoint (roads_of p) b → a.0 ≢ b.0
    → home (zone_tree p) a ≡ home (zone_tree p) b → routing_in (zone_tree p) (home (zone_tree p) a) ≡ Dijkstra
    → TakesLeastPath (roads_of p) a b

abbrev pub WayBackReturns : Platform → Type 0
WayBackReturns p = (links : List LinkId) → All (λ link. link.0 < length (link_ends p.links)) links
    → way_back (link_ends p.links) (way_back (link_ends p.links) links) ≡ links

-- each two points have the local route of the lowest zone that holds them
abbrev pub IsComplete : Roads → Type 0
IsComplete m = (a b : PointId) → IsPoint m a → IsPoint m b → a.0 ≢ b.0 → passage_on m (leg m a b) ≢ None

-- on such a platform nothing is missing between any two points
abbrev pub HasRoutes : Platform → Type 0
HasRoutes p = IsComplete (roads_of p) → (a b : PointId) (missing : Leg) → IsPoint (roads_of p) a → IsPoint (roads_of p) b
    → whole_way (roads_of p) a b ≢ Err missing
