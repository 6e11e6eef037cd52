-- The number of visits that suffices.
use Rattle.std.specs.Prelude.{◌≡◌, ℕ, ◌+◌, ◌*◌, ◌≤◌}
use Rattle.sg_lazy.specs.kept.Solving.{solve_looks}

-- The visits of a rate update are within its bound: one for each use of an ended flow, and those of the levels and of a max-min solve. Without flows there are no uses.
abbrev pub WorkSuffices : Type 0
WorkSuffices = (ended flows uses ended_uses : ℕ) → (flows ≡ 0 → uses ≡ 0) → ended_uses + solve_looks ended flows uses ≤ 4 * (ended + flows + 1) * (ended + flows + (ended_uses + uses))
