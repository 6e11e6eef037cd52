-- How far ahead of a date next entries are.
use Rattle.std.specs.Prelude.{◌≡◌, ℕ, ◌+◌, ◌*◌, ◌^◌, ◌≤◌, Some, List, slice_index_or, None}
use Rattle.sg_profile.specs.Profiles.{dates_of}
use Rattle.sg_profile.specs.declared.profile.Profile.{Profile}
use Rattle.sg_profile.specs.declared.turn.Turn.{Turn}

-- a date isn't past, and at most 2 × 10^18 ns ahead
pub record IsNear (date next : ℕ) : Type 0 where
  pub from : date ≤ next
  pub to : next ≤ date + 2 * 10 ^ 18

-- No row's next entry is overdue, or further ahead than that.
abbrev pub IsAhead : ℕ → List Profile → List Turn → Type 0
IsAhead date profiles turns =
    (row next : ℕ) → slice_index_or (dates_of profiles turns) row None ≡ Some next → IsNear date next
