-- Routes from a point that isn't finalized to one that is.
use Rattle.std.specs.Prelude.{◌≡◌, ℕ, ◌<◌, List, Some, slice_get}
use Rattle.sg_paths.specs.declared.route.PathRoute.{PathRoute}
use Rattle.sg_paths.specs.declared.trail.Settled.{Settled}
use Rattle.sg_paths.specs.Trail.{IsNew}

-- a hop over a declared route, from a new point to a finalized one
pub record IsCrossing (routes : List PathRoute) (settled : List Settled) (hop : Settled) : Type 0 where
  pub route : PathRoute
  pub next : Settled
  pub route_is : slice_get routes hop.route ≡ Some route
  pub next_is : slice_get settled hop.next ≡ Some next
  pub from : route.from ≡ hop.point
  pub to : next.point ≡ route.to
  pub new : IsNew settled hop.point

-- each route joins two of so many points
abbrev pub AreWithin : ℕ → List PathRoute → Type 0
AreWithin points routes =
    (i : ℕ) (route : PathRoute) → slice_get routes i ≡ Some route → (route.from < points) × (route.to < points)
