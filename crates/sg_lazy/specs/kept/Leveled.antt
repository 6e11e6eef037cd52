-- What a `Lazy` keeps of levels: each flow that isn't noted as moved has the rate that its level gives.
use Rattle.std.specs.Prelude.{◌≡◌, ℕ, ◌<◌, ◌≤◌, ◌^◌, Bool, true, false, IsTrue, Option, None, Some, IsSome, List, length, slice_index}
use Rattle.sg_base.specs.MarkSet.{is_in}
use Rattle.sg_maxmin.specs.Fill.{Flow, share_at}
use Rattle.sg_maxmin.specs.Sharing.{Sharing, flow_at}
use Rattle.sg_maxmin_levels.specs.declared.levels.Levels.{Levels}
use Rattle.sg_maxmin_levels.specs.Kept.{IsBetween, IsWithin}
use Rattle.sg_maxmin.specs.Numbered.{bound_at, flow_in, level_at}
use Rattle.sg_lazy.specs.declared.settle.Pending.{Pending}

-- what a flow gets at its level; nothing if it has none
abbrev pub rate_of : Flow → Option ℕ → ℕ
rate_of flow None = 0
rate_of flow (Some level) = share_at flow level

abbrev pub rate_at : List (Option Flow) → List (Option ℕ) → ℕ → ℕ
rate_at slots levels id = rate_of (flow_in slots id) (level_at levels id)

-- What is noted, stale or active is marked; a flow that began is noted; and each that isn't noted has the rate of its level.
pub record AreLeveled (s : Sharing) (levels : Levels) (rates began marked resources : List ℕ) : Type 0 where
  pub between : IsBetween s levels
  pub within : IsWithin (λ id. is_in id marked) (λ r. is_in r resources) levels
  pub begun : (id : ℕ) → is_in id began ≡ true → is_in id levels.moved.members ≡ true
  pub rates_are : (id : ℕ) (flow : Flow) → flow_at s.slots id ≡ Some flow → is_in id levels.moved.members ≡ false → slice_index rates id ≡ rate_at s.slots levels.levels.items id
  pub fit : (c : ℕ) → slice_index s.capacities c < 2 ^ 64

-- the test holds of each number of the rows of these numbers
abbrev pub RowsPass : (ℕ → Bool) → (ℕ → List ℕ) → List ℕ → Type 0
RowsPass test rows numbers = (i : ℕ) → i < length numbers → (c : ℕ) → is_in c (rows (slice_index numbers i)) ≡ true → IsTrue (test c)

-- a flow that ended, or whose rate can be written: it is held, and what its level gives fits 64 bits
pub record IsRatable (s : Sharing) (levels : Levels) (pending : Pending) (flow : ℕ) : Type 0 where
  pub below : flow < length s.slots
  pub began : length s.slots ≤ pending.began.room
  pub ended : length s.slots ≤ pending.ended.room
  pub places : length s.slots ≤ length levels.levels.items
  pub held : is_in flow pending.ended.members ≡ false → IsSome (flow_at s.slots flow)
  pub fits : is_in flow pending.ended.members ≡ false → bound_at s.slots flow ≡ None → rate_at s.slots levels.levels.items flow < 2 ^ 64

-- the same of all that moved
abbrev pub AreRatable : Sharing → Levels → Pending → Type 0
AreRatable s levels pending = (id : ℕ) → is_in id levels.moved.members ≡ true → IsRatable s levels pending id
