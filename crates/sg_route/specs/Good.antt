-- What each route keeps to.
use Rattle.std.specs.Prelude.{◌≡◌, ◌<◌, ◌≤◌, Ok, length, All}
use Rattle.sg_base.specs.declared.ids.PointId.{PointId}
use Rattle.sg_platform_rows.specs.Ends.{link_ends}
use Rattle.sg_platform_rows.specs.Platform.{Platform}
use Rattle.sg_route.specs.Roads.{roads_of}
use Rattle.sg_route.specs.Route.{Route, route_of}

-- a route has 1 to 64 links, all of them exist, and its latency is at most 64 times that of a link
pub record IsGoodRoute (p : Platform) (r : Route) : Type 0 where
  pub some : 1 ≤ length r.links
  pub few : length r.links ≤ 64
  pub exist : All (λ link. link.0 < length (link_ends p.links)) r.links
  pub latency : r.latency ≤ 64000000000000000

abbrev pub RoutesAreGood : Platform → Type 0
RoutesAreGood p = (a b : PointId) (r : Route) → route_of (roads_of p) a b ≡ Ok r → IsGoodRoute p r
