-- Of which local routes a route is made.
use Rattle.std.specs.Prelude.{◌≡◌, ◌≢◌, ℕ, zero, suc, ◌<◌, ◌⊎◌, Some, Result, Ok, Err, List, [], ◌++◌, length}
use Rattle.sg_base.specs.declared.ids.Child.{Child}
use Rattle.sg_base.specs.declared.ids.Child.TheVariants.{Point, Zone}
use Rattle.sg_base.specs.declared.ids.LinkId.{LinkId}
use Rattle.sg_base.specs.declared.ids.PointId.{PointId}
use Rattle.sg_paths.specs.Path.{HasNoPath, HasPath, IsLeast}
use Rattle.sg_platform_rows.specs.declared.rows.Routing.TheVariants.{Dijkstra}
use Rattle.sg_route.specs.declared.leg.Leg.{Leg}
use Rattle.sg_route.specs.declared.router.RouteFault.{RouteFault}
use Rattle.sg_route.specs.declared.router.RouteFault.TheVariants.{NoRoute, TooLong}
use Rattle.sg_route.specs.DistinctLinks.{distinct_links}
use Rattle.sg_route.specs.Roads.{Roads}
use Rattle.sg_route.specs.Route.{Passage, leg, passage_on}
use Rattle.sg_route.specs.PathRoutes.{path_routes}
use Rattle.sg_zones.specs.Tree.{routing_in}

-- ---- what is said of a local route in a Dijkstra zone

-- it begins and ends at the points themselves, and its links are those of a path
pub record IsPathOf (m : Roads) (l : Leg) (own : Passage) : Type 0 where
  pub from : l.from ≡ Point own.start
  pub to : l.to ≡ Point own.end
  pub path : HasPath (path_routes m.tree m.locals) own.start.0 own.end.0 own.links

abbrev pub IsReached : Roads → Leg → Passage → Type 0
IsReached m l own = routing_in m.tree l.zone ≡ Dijkstra → IsPathOf m l own

-- no path has fewer links, or as many with a smaller list
abbrev pub IsLeastThere : Roads → Leg → Passage → Type 0
IsLeastThere m l own = routing_in m.tree l.zone ≡ Dijkstra → IsLeast (path_routes m.tree m.locals) own.start.0 own.end.0 own.links

-- no path leads from the one to the other, if these are points
abbrev pub HasNoneFrom : Roads → Child → Child → Type 0
HasNoneFrom m (Point a) (Point b) = HasNoPath (path_routes m.tree m.locals) a.0 b.0
HasNoneFrom m (Point a) (Zone b) = Unit {0}
HasNoneFrom m (Zone a) to = Unit {0}

-- what is missing in a Dijkstra zone is a path
abbrev pub IsWithoutPath : Roads → RouteFault → Type 0
IsWithoutPath m (NoRoute zone from to) = routing_in m.tree zone ≡ Dijkstra → HasNoneFrom m from to
IsWithoutPath m TooLong = Unit {0}

-- ---- whole routes, made of local routes that all have something

-- no links lead from a point to itself, and these to another
abbrev pub UnlessThere : (PointId → PointId → List LinkId → Type 0) → PointId → PointId → List LinkId → Type 0
UnlessThere made a b links = ((a.0 ≡ b.0) × (links ≡ [])) ⊎ ((a.0 ≢ b.0) × made a b links)

-- the links of the local route of the lowest zone that holds both, after those from a to its first gateway, and before
-- those from its second gateway to b
pub record IsJoined (has : Leg → Passage → Type 0) (made : PointId → PointId → List LinkId → Type 0) (m : Roads) (a b : PointId) (links : List LinkId) : Type 0 where
  pub own : Passage
  pub front : List LinkId
  pub behind : List LinkId
  pub local : passage_on m (leg m a b) ≡ Some own
  pub holds : has (leg m a b) own
  pub before : UnlessThere made a own.start front
  pub after : UnlessThere made own.end b behind
  pub joined : links ≡ front ++ own.links ++ behind

-- a route through so many levels of zones is made so
unfoldable pub IsMadeOf : (Leg → Passage → Type 0) → ℕ → Roads → PointId → PointId → List LinkId → Type 0
IsMadeOf has zero m a b links = links ≡ []
IsMadeOf has (suc levels) m a b links = IsJoined has (IsMadeOf has levels m) m a b links

-- what is left of such a route: each link once, at its first place, or none if these are more than 64
abbrev pub LeavesMade : (Leg → Passage → Type 0) → Roads → PointId → PointId → Result ℕ RouteFault → List LinkId → Type 0
LeavesMade has m a b (Ok latency) links = (all : List LinkId) × IsMadeOf has 16 m a b all × (links ≡ distinct_links [] all)
LeavesMade has m a b (Err TooLong) links = (all : List LinkId) × IsMadeOf has 16 m a b all × (64 < length (distinct_links [] all))
LeavesMade has m a b (Err (NoRoute zone from to)) links = Unit {0}
