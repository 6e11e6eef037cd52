-- The level at which a max-min solve takes each resource: there it holds its flows.
use Rattle.std.specs.Prelude.{◌≡◌, ℕ, ◌+◌, ◌*◌, ◌<◌, ◌≤◌, ◌==◌, ◌⊎◌, Bool, true, false, Option, None, Some, IsSome, is_none, if◌then◌else◌, List, Contains, length, sum_by, slice_index, slice_set}
use Rattle.sg_base.specs.MarkSet.{is_in}
use Rattle.sg_maxmin.specs.Chained.{users_on}
use Rattle.sg_maxmin.specs.Fill.{Flow}
use Rattle.sg_maxmin.specs.Sharing.{Sharing}
use Rattle.sg_maxmin.specs.Numbered.{below_at, row_level}
use Rattle.sg_maxmin_solve.specs.declared.filling.Filling.{Filling}
use Rattle.sg_maxmin_solve.specs.declared.limits.Low.{Low}
use Rattle.sg_maxmin_solve.specs.Dates.{AreDated, HaveKeys, HaveNone, IsIdle}
use Rattle.sg_maxmin.specs.Step.{IsLeast}
use Rattle.sg_maxmin_solve.specs.Filling.{AreAbove, AreCounted, AreFixed, AreJoined, AreLeveled, AreLevels, AreTaken, HasPlaces, IsFloor, KeepsFixed, KeepsHolds, KeepsOthers, StepsPartly, fixed_at, limits_at, unfixed_bounds, unfixed_limits, unfixed_uses}

-- a resource is noted if it is at this level
abbrev pub noted_at : ℕ → ℕ → Filling → List (Option ℕ)
noted_at low resource filling = if slice_index filling.levels.items resource == low then slice_set filling.holds.items resource (Some low) else filling.holds.items

-- What is noted of a resource: just the level of a flow on it at which it is with the flows of lower levels fixed. Once it is noted all its flows are fixed.
pub record IsNoted (capacity : ℕ) (slots : List (Option Flow)) (fixed : List (Option ℕ)) (row : List ℕ) (hold : Option ℕ) : Type 0 where
  pub user : (x : ℕ) → hold ≡ Some x → (id : ℕ) × (is_in id row ≡ true) × (fixed_at fixed id ≡ Some x)
  pub met : (x : ℕ) → hold ≡ Some x → row_level capacity slots (below_at fixed x) row ≡ x
  pub told : (id x : ℕ) → is_in id row ≡ true → fixed_at fixed id ≡ Some x → row_level capacity slots (below_at fixed x) row ≡ x → hold ≡ Some x
  pub done : IsSome hold → (id : ℕ) → is_in id row ≡ true → IsSome (fixed_at fixed id)

abbrev pub AreNoted : Sharing → List ℕ → Filling → Type 0
AreNoted s reached filling = (c : ℕ) → is_in c reached ≡ true → IsNoted (slice_index s.capacities c) s.slots filling.fixed.items (users_on s.users c) (fixed_at filling.holds.items c)

-- each fixed flow has a lower level than all that limits the unfixed ones
abbrev pub AreUnder : Sharing → List ℕ → Filling → Type 0
AreUnder s touched filling =
    (id x limit : ℕ) → is_in id touched ≡ true → fixed_at filling.fixed.items id ≡ Some x →
    Contains (unfixed_limits s.slots filling.fixed.items filling.levels.items touched) limit → x < limit

-- a resource is noted at this level only if it is there
abbrev pub MayHold : ℕ → ℕ → Option ℕ → Option ℕ → Type 0
MayHold low level before after = (after ≡ before) ⊎ ((level ≡ low) × (after ≡ Some low))

-- a part of a step: of the reached resources those at this level are noted, if a flow waits there, and no others
pub record NotesHolds (reached : List ℕ) (low : ℕ) (old new : Filling) : Type 0 where
  pub others : KeepsHolds reached old new
  pub may : (c : ℕ) → MayHold low (slice_index old.levels.items c) (fixed_at old.holds.items c) (fixed_at new.holds.items c)
  pub taken : (c : ℕ) → is_in c reached ≡ true → slice_index old.levels.items c ≡ low → 0 < slice_index old.waiting.items c → fixed_at new.holds.items c ≡ Some low

-- how many users a resource has, if it is at this level
abbrev pub users_at : Sharing → ℕ → ℕ → Filling → ℕ
users_at s low resource filling = if slice_index filling.levels.items resource == low then length (users_on s.users resource) else 0

-- how many users the resources have that aren't noted
abbrev pub untaken : Sharing → List ℕ → Filling → ℕ
untaken s reached filling = sum_by (λ c. if is_none (fixed_at filling.holds.items c) then length (users_on s.users c) else 0) reached

-- no resource at this level is noted yet
abbrev pub AreFresh : List ℕ → ℕ → Filling → Type 0
AreFresh reached low filling = (c : ℕ) → is_in c reached ≡ true → slice_index filling.levels.items c ≡ low → fixed_at filling.holds.items c ≡ None

-- a max-min solve between two steps: what remains and waits is counted, the keys are right, and no unfixed flow has a bound below the
-- floor
pub record IsUnderWay (s : Sharing) (touched reached : List ℕ) (floor : Option ℕ) (filling : Filling) : Type 0 where
  pub joined : AreJoined s touched reached
  pub places : HasPlaces s filling
  pub counted : AreCounted s filling.fixed.items touched filling.left.items filling.waiting.items (λ c. is_in c reached)
  pub dated : AreDated reached filling
  pub floor_is : IsFloor floor (unfixed_bounds s.slots filling.fixed.items touched)

-- a max-min solve at the level of its next step
pub record IsAtLevel (s : Sharing) (touched reached : List ℕ) (low : Low) (filling : Filling) : Type 0 where
  pub joined : AreJoined s touched reached
  pub places : HasPlaces s filling
  pub above : AreAbove s touched low.level filling
  pub floor : IsFloor low.floor (unfixed_bounds s.slots filling.fixed.items touched)
  pub taken : AreTaken reached low filling
  pub counted : AreCounted s filling.fixed.items touched filling.left.items filling.waiting.items (λ c. is_in c reached)
  pub dated : AreDated reached filling
  pub fresh : AreFresh reached low.level filling

-- and the resources at the level are found by their keys
pub record IsAtKeys (s : Sharing) (touched reached : List ℕ) (low : Low) (filling : Filling) : Type 0 where
  pub at : IsAtLevel s touched reached low filling
  pub keys : HaveKeys filling.agenda

-- a max-min solve before a step at this level: the levels of the reached resources are divided
pub record CanStep (s : Sharing) (touched reached : List ℕ) (low : Low) (filling : Filling) : Type 0 where
  pub at : IsAtLevel s touched reached low filling
  pub levels : AreLevels reached filling

-- what was counted stays so; the uses of each flow that is fixed are walked twice, and the users of each resource that is noted once
pub record CountsOnce (s : Sharing) (touched reached : List ℕ) (old new : Filling) (before after : ℕ) : Type 0 where
  pub counted : (test : ℕ → Bool) → AreCounted s old.fixed.items touched old.left.items old.waiting.items test → AreCounted s new.fixed.items touched new.left.items new.waiting.items test
  pub looks : after + 2 * unfixed_uses s.slots new.fixed.items touched + untaken s reached new ≤ before + 2 * unfixed_uses s.slots old.fixed.items touched + untaken s reached old

-- the part of a step that goes by resources: all flows on those at its level are fixed
pub record FixesUsers (s : Sharing) (touched reached : List ℕ) (low : Low) (old new : Filling) (before after : ℕ) : Type 0 where
  pub partly : StepsPartly s low.level old new
  pub noted : NotesHolds reached low.level old new
  pub on : (i : ℕ) → i < length reached → slice_index old.levels.items (slice_index reached i) ≡ low.level → AreFixed (users_on s.users (slice_index reached i)) new
  pub count : CountsOnce s touched reached old new before after

-- a max-min solve at the level of its last step: all touched flows are unfixed and at it; no resource has a key
pub record IsLast (s : Sharing) (touched reached : List ℕ) (low : ℕ) (filling : Filling) : Type 0 where
  pub joined : AreJoined s touched reached
  pub places : HasPlaces s filling
  pub unfixed : (id : ℕ) → is_in id touched ≡ true → fixed_at filling.fixed.items id ≡ None
  pub at : (id : ℕ) → is_in id touched ≡ true → IsLeast (Some low) (limits_at s.slots filling.levels.items id)
  pub quiet : (c : ℕ) → is_in c reached ≡ false → slice_index filling.waiting.items c ≡ 0
  pub keys : HaveNone filling.agenda

-- what the last step does: all touched flows are fixed at its level, and nobody waits
pub record FixesRest (s : Sharing) (touched reached : List ℕ) (low : ℕ) (old new : Filling) : Type 0 where
  pub places : HasPlaces s new
  pub idle : IsIdle new
  pub fixed : (id : ℕ) → is_in id touched ≡ true → fixed_at new.fixed.items id ≡ Some low
  pub kept : KeepsFixed old new
  pub noted : NotesHolds reached low old new

-- a max-min solve begins: no touched flow is fixed, and no reached resource is noted
pub record IsBegun (s : Sharing) (touched reached : List ℕ) (filling : Filling) : Type 0 where
  pub unfixed : (i : ℕ) → i < length touched → fixed_at filling.fixed.items (slice_index touched i) ≡ None
  pub unnoted : (i : ℕ) → i < length reached → fixed_at filling.holds.items (slice_index reached i) ≡ None
  pub counted : AreCounted s filling.fixed.items touched filling.left.items filling.waiting.items (λ c. is_in c reached)
  pub levels : AreLevels reached filling
  pub dated : AreDated reached filling

-- and has ended: each touched flow has its level, and each reached resource is noted
pub record IsEnded (s : Sharing) (touched reached : List ℕ) (old new : Filling) : Type 0 where
  pub places : HasPlaces s new
  pub idle : IsIdle new
  pub kept : KeepsOthers touched old new
  pub holds_kept : KeepsHolds reached old new
  pub fixed : AreLeveled s touched new
  pub noted : AreNoted s reached new
