-- The routes that lead to each point, found one after the other.
use Rattle.std.specs.Prelude.{◌≡◌, ◌≢◌, ℕ, ◌-◌, ◌<◌, ◌≤◌, List, Option, Some, None, length, slice_get, slice_index}
use Rattle.sg_paths.specs.declared.arrivals.Arrivals.{Arrivals}
use Rattle.sg_paths.specs.declared.route.PathRoute.{PathRoute}

abbrev pub to_in : Option PathRoute → ℕ
to_in None = 0
to_in (Some route) = route.to

-- where a route leads
abbrev pub to_at : List PathRoute → ℕ → ℕ
to_at routes i = to_in (slice_get routes i)

abbrev pub from_in : Option PathRoute → ℕ
from_in None = 0
from_in (Some route) = route.from

-- where a route begins
abbrev pub from_at : List PathRoute → ℕ → ℕ
from_at routes i = from_in (slice_get routes i)

-- of the routes below this number, n - 1 is the last one that leads to a point; if n is 0, none does
pub record IsLast (routes : List PathRoute) (point below n : ℕ) : Type 0 where
  pub within : n ≤ below
  pub none : (i : ℕ) → n ≤ i → i < below → to_at routes i ≢ point
  pub here : 0 < n → to_at routes (n - 1) ≡ point

-- the last route to each point, and the one before each route to the same point
pub record AreArrivals (points : ℕ) (routes : List PathRoute) (arrivals : Arrivals) : Type 0 where
  pub lasts : length arrivals.last.items ≡ points
  pub befores : length arrivals.before.items ≡ length routes
  pub last : (point : ℕ) → point < points → IsLast routes point (length routes) (slice_index arrivals.last.items point)
  pub before : (i : ℕ) → i < length routes → IsLast routes (to_at routes i) i (slice_index arrivals.before.items i)
