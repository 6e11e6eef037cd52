-- Where a number belongs in a list in rising order.
use Rattle.std.specs.Prelude.{ℕ, ◌<◌, ◌≤◌, List, length, slice_index_or}

-- the keys of those before the place are smaller, and of those from there on they aren't
pub record IsPlace {X : Type 0} (key : X → ℕ) (xs : List X) (sought : ℕ) (place : ℕ) : Type 0 where
  pub within : place ≤ length xs
  pub below : (k : ℕ) (d : X) → k < place → key (slice_index_or xs k d) < sought
  pub above : (k : ℕ) (d : X) → place ≤ k → k < length xs → sought ≤ key (slice_index_or xs k d)
