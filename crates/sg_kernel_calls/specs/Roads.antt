-- Roads on which communications can begin.
use Rattle.std.specs.Prelude.{◌≡◌, ◌≢◌, ℕ, ◌<◌, ◌≤◌, Ok, [], length, All}
use Rattle.sg_base.specs.declared.ids.LinkId.{LinkId}
use Rattle.sg_base.specs.declared.ids.PointId.{PointId}
use Rattle.sg_route.specs.Roads.{Roads}
use Rattle.sg_route.specs.Route.{Route, route_of}

-- a route over 1 to 64 of so many links, whose latency is at most 64 times that of a link
pub record IsOver (links : ℕ) (route : Route) : Type 0 where
  pub some : route.links ≢ []
  pub few : length route.links ≤ 64
  pub exist : All (λ (link : LinkId). link.0 < links) route.links
  pub latency : route.latency ≤ 64000000000000000

-- all routes use so many links
abbrev pub AreOver : ℕ → Roads → Type 0
AreOver links roads = (a b : PointId) (route : Route) → route_of roads a b ≡ Ok route → IsOver links route
