-- Trees of shortest paths: with which route the shortest path from a point to the point of a tree begins.
use Rattle.std.specs.Prelude.{◌≡◌, ℕ, ◌-◌, ◌<◌, List, ◌++◌, ◌⊎◌, Some, length, slice_get, slice_set}
use Rattle.sg_base.specs.declared.ids.LinkId.{LinkId}
use Rattle.sg_paths.specs.declared.route.PathRoute.{PathRoute}
use Rattle.sg_paths.specs.declared.trail.Settled.{Settled}
use Rattle.sg_paths.specs.declared.trees.Hop.{Hop}
use Rattle.sg_paths.specs.Arrivals.{from_at, to_at}
use Rattle.sg_paths.specs.Least.{least_path}
use Rattle.sg_paths.specs.Trail.{links_at}

-- the shortest path to a point from where a route begins goes over this route, and then over the shortest from its end
pub record IsOnward (routes : List PathRoute) (to i : ℕ) : Type 0 where
  pub few : i < length routes
  pub rest : List LinkId
  pub next : least_path routes (to_at routes i) to ≡ Some rest
  pub is : least_path routes (from_at routes i) to ≡ Some (links_at routes i ++ rest)

-- so does the shortest path from this point
pub record GoesOver (routes : List PathRoute) (from to i : ℕ) : Type 0 where
  pub begins : from_at routes i ≡ from
  pub onward : IsOnward routes to i

-- each hop that is stored is that of a shortest path
abbrev pub AreOnward : List PathRoute → List Hop → Type 0
AreOnward routes hops = (k : ℕ) (hop : Hop) → slice_get hops k ≡ Some hop → 0 < hop.route → IsOnward routes hop.to (hop.route - 1)

-- none is stored
abbrev pub AreEmpty : List Hop → Type 0
AreEmpty hops = (k : ℕ) (hop : Hop) → slice_get hops k ≡ Some hop → ⊥

-- the routes of finalized points, except the first, are those of the shortest paths to a point
abbrev pub IsTree : List PathRoute → ℕ → List Settled → Type 0
IsTree routes to settled = (k : ℕ) (s : Settled) → 0 < k → slice_get settled k ≡ Some s → IsOnward routes to s.route

-- a hop is written at some place, or none is
abbrev pub MayWrite : List Hop → List Hop → Hop → Type 0
MayWrite old new hop = (new ≡ old) ⊎ ((place : ℕ) × (new ≡ slice_set old place hop))

-- hops that were right still are
abbrev pub StayOnward : List Hop → List Hop → Type 0
StayOnward old new = (routes : List PathRoute) → AreOnward routes old → AreOnward routes new

-- and so are those that were added from a tree
abbrev pub TakeTree : List Settled → ℕ → List Hop → List Hop → Type 0
TakeTree settled to old new = (routes : List PathRoute) → IsTree routes to settled → AreOnward routes old → AreOnward routes new
