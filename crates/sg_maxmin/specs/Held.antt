-- By number: at which level each resource holds its flows, and levels at which all flows are held.
use Rattle.std.specs.Prelude.{◌≡◌, ◌≢◌, ℕ, ◌<◌, ◌≤◌, true, Option, None, Some, IfSome, List, length, slice_index}
use Rattle.sg_base.specs.MarkSet.{is_in}
use Rattle.sg_maxmin.specs.Chained.{users_on}
use Rattle.sg_maxmin.specs.Fill.{Flow, level_of}
use Rattle.sg_maxmin.specs.Sharing.{Sharing, IsSound, flow_at, held}
use Rattle.sg_maxmin.specs.Numbered.{below_at, bound_of, level_at, row_level, row_waiting}

-- a level that is missing is above every number
abbrev pub IsUnder : ℕ → Option ℕ → Type 0
IsUnder x None = Unit {0}
IsUnder x (Some level) = x < level

abbrev pub IsAtMost : Option ℕ → Option ℕ → Type 0
IsAtMost level None = Unit {0}
IsAtMost None (Some most) = ⊥
IsAtMost (Some level) (Some most) = level ≤ most

-- The level at which a resource holds its flows: with the flows of lower levels fixed it is at this level, and at each lower
-- one it is above it. None: it is above each level at which a flow waits there.
pub record IsHold (capacity : ℕ) (slots : List (Option Flow)) (levels : List (Option ℕ)) (row : List ℕ) (hold : Option ℕ) : Type 0 where
  pub above : (x : ℕ) → IsUnder x hold → 0 < row_waiting slots (below_at levels x) row → x < row_level capacity slots (below_at levels x) row
  pub met : IfSome hold (λ x. (0 < row_waiting slots (below_at levels x) row) × (row_level capacity slots (below_at levels x) row ≡ x))

-- a flow's bound is of this level, or one of its resources holds at it
pub data IsCause (holds : ℕ → Option ℕ) (flow : Flow) (x : ℕ) : Type 0 where
  by_bound : bound_of flow ≡ Some x → IsCause holds flow x
  by_resource : (c : ℕ) → is_in c flow.uses ≡ true → holds c ≡ Some x → IsCause holds flow x

-- Each flow's level is the least of its bound's level and of its resources' holds.
pub record AreHeld (s : Sharing) (levels : List (Option ℕ)) (holds : ℕ → Option ℕ) : Type 0 where
  pub resources : (c : ℕ) → c < length s.capacities → IsHold (slice_index s.capacities c) s.slots levels (users_on s.users c) (holds c)
  pub within : (id : ℕ) (flow : Flow) → flow_at s.slots id ≡ Some flow → IsAtMost (level_at levels id) (bound_of flow)
  pub under : (id c : ℕ) (flow : Flow) → flow_at s.slots id ≡ Some flow → is_in c flow.uses ≡ true → IsAtMost (level_at levels id) (holds c)
  pub cause : (id : ℕ) (flow : Flow) → flow_at s.slots id ≡ Some flow → (x : ℕ) × (level_at levels id ≡ Some x) × IsCause holds flow x

-- each level is the max-min level
abbrev pub AreFilled : Sharing → List (Option ℕ) → Type 0
AreFilled s levels = (id : ℕ) (flow : Flow) → flow_at s.slots id ≡ Some flow → level_at levels id ≡ Some (level_of s.capacities (held s.slots) flow)

-- Levels at which all flows are held are the max-min levels.
abbrev pub HeldIsFilling : Type 0
HeldIsFilling = (s : Sharing) (levels : List (Option ℕ)) (holds : ℕ → Option ℕ) → IsSound s → AreHeld s levels holds → AreFilled s levels

-- The max-min levels are those at which all flows are held.
abbrev pub FillingIsHeld : Type 0
FillingIsHeld =
    (s : Sharing) (levels : List (Option ℕ)) (holds : ℕ → Option ℕ) → IsSound s → AreFilled s levels →
    ((c : ℕ) → c < length s.capacities → IsHold (slice_index s.capacities c) s.slots levels (users_on s.users c) (holds c)) →
    AreHeld s levels holds

-- Of the max-min levels: a resource that is at the level of one of its users holds at it,
abbrev pub FullHolds : Type 0
FullHolds =
    (s : Sharing) (levels : List (Option ℕ)) (c id x : ℕ) → IsSound s → AreFilled s levels → let row = users_on s.users c in
    is_in id row ≡ true → level_at levels id ≡ Some x → row_level (slice_index s.capacities c) s.slots (below_at levels x) row ≡ x →
    IsHold (slice_index s.capacities c) s.slots levels row (Some x)

-- and one that is at none holds none.
abbrev pub OthersHoldNone : Type 0
OthersHoldNone =
    (s : Sharing) (levels : List (Option ℕ)) (c : ℕ) → IsSound s → AreFilled s levels → let row = users_on s.users c in
    ((id x : ℕ) → is_in id row ≡ true → level_at levels id ≡ Some x → row_level (slice_index s.capacities c) s.slots (below_at levels x) row ≢ x) →
    IsHold (slice_index s.capacities c) s.slots levels row None

-- each flow of a row is the same, and has the same level
abbrev pub IsSameRow : List ℕ → List (Option Flow) → List (Option Flow) → List (Option ℕ) → List (Option ℕ) → Type 0
IsSameRow row slots slots' levels levels' = (id : ℕ) → is_in id row ≡ true → (flow_at slots' id ≡ flow_at slots id) × (level_at levels' id ≡ level_at levels id)

-- A resource has one hold.
abbrev pub HoldIsOne : Type 0
HoldIsOne =
    (capacity : ℕ) (slots : List (Option Flow)) (levels : List (Option ℕ)) (row : List ℕ) (one other : Option ℕ) →
    IsHold capacity slots levels row one → IsHold capacity slots levels row other → one ≡ other

-- It depends on the capacity, the flows on the resource and their levels alone.
abbrev pub HoldIsLocal : Type 0
HoldIsLocal =
    (capacity : ℕ) (slots slots' : List (Option Flow)) (levels levels' : List (Option ℕ)) (row : List ℕ) (hold : Option ℕ) →
    IsSameRow row slots slots' levels levels' → IsHold capacity slots levels row hold → IsHold capacity slots' levels' row hold
