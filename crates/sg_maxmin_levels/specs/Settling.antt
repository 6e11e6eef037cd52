-- Levels and holds while they are made to agree: some resources wait to be processed, and some users of one of them.
use Rattle.std.specs.Prelude.{◌≡◌, ℕ, ◌<◌, ◌⊎◌, Bool, true, false, Option, None, Some, List, [], length, slice_index}
use Rattle.sg_base.specs.MarkSet.{MarkSet, is_in}
use Rattle.sg_maxmin.specs.Chained.{users_on}
use Rattle.sg_maxmin.specs.Fill.{Flow}
use Rattle.sg_maxmin.specs.Sharing.{Sharing, IsSound, flow_at, uses_at}
use Rattle.sg_maxmin.specs.Numbered.{bound_of, level_at}
use Rattle.sg_maxmin.specs.Held.{IsHold, AreHeld, IsAtMost}

-- whether a resource waits to be processed
abbrev pub is_active : List ℕ → ℕ → Bool
is_active active r = is_in r active

-- the level is that of the flow's bound, or what is written of one of its resources
pub data HasCause (holds : List (Option ℕ)) (flow : Flow) (level : Option ℕ) : Type 0 where
  at_bound : bound_of flow ≡ level → HasCause holds flow level
  at_hold : (r : ℕ) → is_in r flow.uses ≡ true → level_at holds r ≡ level → HasCause holds flow level

-- What is written of a resource that isn't active is its hold, and its users are no higher, except for those of c in `todo`.
-- Each flow has a cause, except for those in `todo` that have the level which was written of c before.
pub record AreSettlingOn (s : Sharing) (levels holds : List (Option ℕ)) (active : List ℕ) (c : ℕ) (old : Option ℕ) (todo : List ℕ) : Type 0 where
  pub resources : (r : ℕ) → r < length s.capacities → is_active active r ≡ false → IsHold (slice_index s.capacities r) s.slots levels (users_on s.users r) (level_at holds r)
  pub within : (id : ℕ) (flow : Flow) → flow_at s.slots id ≡ Some flow → IsAtMost (level_at levels id) (bound_of flow)
  pub under : (id r : ℕ) (flow : Flow) → flow_at s.slots id ≡ Some flow → is_in r flow.uses ≡ true → is_active active r ≡ false → IsAtMost (level_at levels id) (level_at holds r) ⊎ ((r ≡ c) × (is_in id todo ≡ true))
  pub cause : (id : ℕ) (flow : Flow) → flow_at s.slots id ≡ Some flow → HasCause holds flow (level_at levels id) ⊎ ((is_in id todo ≡ true) × (level_at levels id ≡ old))

-- the same if no user is left to update
abbrev pub AreSettling : Sharing → List (Option ℕ) → List (Option ℕ) → List ℕ → Type 0
AreSettling s levels holds active = AreSettlingOn s levels holds active 0 None []

-- Once no resource is active, all flows are held, so their levels are the max-min levels.
abbrev pub SettlingEnds : Type 0
SettlingEnds =
    (s : Sharing) (levels holds : List (Option ℕ)) (active : List ℕ) → IsSound s →
    AreSettling s levels holds active → ((r : ℕ) → is_active active r ≡ false) → AreHeld s levels (level_at holds)

-- If all flows are held, no resource need be active: an update may begin after a max-min solve.
abbrev pub HeldSettles : Type 0
HeldSettles =
    (s : Sharing) (levels holds : List (Option ℕ)) (active : List ℕ) → AreHeld s levels (level_at holds) →
    AreSettling s levels holds active

-- The same between rate updates, with some flows that began or got another bound since they were given their levels. Nothing is
-- said of these, nor of the holds of what they use.
pub record AreSettlingBut (s : Sharing) (levels holds : List (Option ℕ)) (active : List ℕ) (stale : List ℕ) : Type 0 where
  pub resources : (r : ℕ) → r < length s.capacities → is_active active r ≡ false → ((id : ℕ) → is_in id stale ≡ true → is_in r (uses_at s.slots id) ≡ false) → IsHold (slice_index s.capacities r) s.slots levels (users_on s.users r) (level_at holds r)
  pub within : (id : ℕ) (flow : Flow) → flow_at s.slots id ≡ Some flow → is_in id stale ≡ false → IsAtMost (level_at levels id) (bound_of flow)
  pub under : (id r : ℕ) (flow : Flow) → flow_at s.slots id ≡ Some flow → is_in id stale ≡ false → is_in r flow.uses ≡ true → is_active active r ≡ false → IsAtMost (level_at levels id) (level_at holds r)
  pub cause : (id : ℕ) (flow : Flow) → flow_at s.slots id ≡ Some flow → is_in id stale ≡ false → HasCause holds flow (level_at levels id)

-- a flow that is as it was, with its level, and isn't stale if it wasn't
pub record IsSame (s t : Sharing) (old new : List (Option ℕ)) (stale stale' : List ℕ) (id : ℕ) : Type 0 where
  pub flow : flow_at t.slots id ≡ flow_at s.slots id
  pub level : level_at new id ≡ level_at old id
  pub still : is_in id stale' ≡ false → is_in id stale ≡ false

-- a flow that began or has another bound, which is stale
pub record IsStale (s t : Sharing) (stale : List ℕ) (id : ℕ) : Type 0 where
  pub uses : (r : ℕ) → is_in r (uses_at s.slots id) ≡ true → is_in r (uses_at t.slots id) ≡ true
  pub now : is_in id stale ≡ true

-- a flow that went, or is given the level of its bound: the resources that it used or uses are active
pub record IsChanged (old new : Option Flow) (level : Option ℕ) (active : List ℕ) : Type 0 where
  pub before : (flow : Flow) (r : ℕ) → old ≡ Some flow → is_in r flow.uses ≡ true → is_active active r ≡ true
  pub after : (flow : Flow) (r : ℕ) → new ≡ Some flow → is_in r flow.uses ≡ true → is_active active r ≡ true
  pub level_is : (flow : Flow) → new ≡ Some flow → level ≡ bound_of flow

-- Flows came, went or have other bounds, and resources have other capacities: what they touch is active or stale, and all else is as it was.
pub record AreMarked (s t : Sharing) (old new : List (Option ℕ)) (active active' : List ℕ) (stale stale' : List ℕ) : Type 0 where
  pub as_many : length t.capacities ≡ length s.capacities
  pub capacities : (r : ℕ) → is_active active' r ≡ false → slice_index t.capacities r ≡ slice_index s.capacities r
  pub marks : (r : ℕ) → is_active active' r ≡ false → is_active active r ≡ false
  pub flows : (id : ℕ) → IsSame s t old new stale stale' id ⊎ (IsStale s t stale' id ⊎ IsChanged (flow_at s.slots id) (flow_at t.slots id) (level_at new id) active')

-- What is written stays right of what is neither active nor stale.
abbrev pub ChangesKeep : Type 0
ChangesKeep =
    (s t : Sharing) (old new holds : List (Option ℕ)) (active active' : List ℕ) (stale stale' : List ℕ) → IsSound s → IsSound t → AreMarked s t old new active active' stale stale' →
    AreSettlingBut s old holds active stale → AreSettlingBut t new holds active' stale'

-- the members stay, and a flow whose level changed is one
pub record AreNoted (old new : MarkSet) (levels levels' : List (Option ℕ)) : Type 0 where
  pub room : new.room ≡ old.room
  pub grows : (id : ℕ) → is_in id old.members ≡ true → is_in id new.members ≡ true
  pub kept : (id : ℕ) → is_in id new.members ≡ false → level_at levels' id ≡ level_at levels id
