-- What a change of levels leaves of the holds, and when a resource holds none.
use Rattle.std.specs.Prelude.{◌≡◌, ℕ, ◌+◌, ◌*◌, ◌<◌, ◌≤◌, ◌⊎◌, true, Option, None, Some, option_map, List, sum_by, slice_index}
use Rattle.sg_base.specs.MarkSet.{is_in}
use Rattle.sg_maxmin.specs.Chained.{users_on}
use Rattle.sg_maxmin.specs.Fill.{Flow, bound_level}
use Rattle.sg_maxmin.specs.Sharing.{Sharing, IsSound}
use Rattle.sg_maxmin.specs.Numbered.{below_at, bound_at, level_at, row_level, row_taken, row_waiting, weight_at}
use Rattle.sg_maxmin.specs.Held.{IsAtMost, IsHold}

-- a level is at least this one
abbrev pub IsFrom : ℕ → Option ℕ → Type 0
IsFrom least None = Unit {0}
IsFrom least (Some level) = least ≤ level

-- of the flows of a row, those whose level changed have one of at least this before and after
abbrev pub ChangesFrom : ℕ → List ℕ → List (Option ℕ) → List (Option ℕ) → Type 0
ChangesFrom least row old new = (id : ℕ) → is_in id row ≡ true → (level_at new id ≡ level_at old id) ⊎ (IsFrom least (level_at old id) × IsFrom least (level_at new id))

-- A hold stays as long as no level below it changes,
abbrev pub HoldStays : Type 0
HoldStays =
    (capacity : ℕ) (slots : List (Option Flow)) (old new : List (Option ℕ)) (row : List ℕ) (hold : ℕ) →
    ChangesFrom hold row old new → IsHold capacity slots old row (Some hold) → IsHold capacity slots new row (Some hold)

-- and doesn't fall below the levels that change.
abbrev pub HoldStaysFrom : Type 0
HoldStaysFrom =
    (capacity : ℕ) (slots : List (Option Flow)) (old new : List (Option ℕ)) (row : List ℕ) (least : ℕ) (before after : Option ℕ) →
    ChangesFrom least row old new → IsHold capacity slots old row before → IsFrom least before → IsHold capacity slots new row after → IsFrom least after

-- no flow of a row has a higher level than its bound's
abbrev pub AreWithin : List (Option Flow) → List (Option ℕ) → List ℕ → Type 0
AreWithin slots levels row = (id : ℕ) → is_in id row ≡ true → IsAtMost (level_at levels id) (option_map (bound_level (weight_at slots id)) (bound_at slots id))

-- If the shares, twice all weights, and a level for each unit of weight of the flows without one fit the capacity, a resource
-- is above that level.
abbrev pub SlackIsAbove : Type 0
SlackIsAbove =
    (s : Sharing) (levels : List (Option ℕ)) (c x : ℕ) → IsSound s → let row = users_on s.users c in
    AreWithin s.slots levels row →
    row_taken s.slots (level_at levels) row + 2 * sum_by (weight_at s.slots) row + x * row_waiting s.slots (level_at levels) row ≤ slice_index s.capacities c →
    0 < row_waiting s.slots (below_at levels x) row →
    x < row_level (slice_index s.capacities c) s.slots (below_at levels x) row

-- If all flows have levels, and the shares and twice all weights fit the capacity, a resource holds none.
abbrev pub SlackHoldsNone : Type 0
SlackHoldsNone =
    (s : Sharing) (levels : List (Option ℕ)) (c : ℕ) → IsSound s → let row = users_on s.users c in
    AreWithin s.slots levels row → row_waiting s.slots (level_at levels) row ≡ 0 →
    row_taken s.slots (level_at levels) row + 2 * sum_by (weight_at s.slots) row ≤ slice_index s.capacities c →
    IsHold (slice_index s.capacities c) s.slots levels row None
