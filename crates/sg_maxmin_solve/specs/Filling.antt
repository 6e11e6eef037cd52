-- A max-min solve of the touched flows, by their numbers.
use Rattle.std.specs.Prelude.{◌≡◌, ◌≢◌, ℕ, ◌+◌, ◌-◌, ◌*◌, ◌/◌, ◌<◌, ◌≤◌, ◌==◌, ◌⊎◌, Bool, true, false, AllPairs, Option, None, Some, IsSome, is_none, option_to_list, if◌then◌else◌, List, [], ◌∷◌, ◌++◌, map, flat_map, length, sum_by, All, Contains, slice_index, slice_index_or, slice_set}
use Rattle.sg_maxmin.specs.Fill.{Flow, share_at, level_of}
use Rattle.sg_maxmin.specs.Fixing.{share_of_fixed}
use Rattle.sg_maxmin.specs.Chained.{times}
use Rattle.sg_maxmin.specs.Sharing.{Sharing, IsSound, flow_at, uses_at}
use Rattle.sg_base.specs.MarkSet.{is_in}
use Rattle.sg_heap.specs.Agenda.{key_at}
use Rattle.sg_maxmin.specs.Chained.{users_on}
use Rattle.sg_maxmin.specs.Numbered.{bound_of, flow_in, weight_at}
use Rattle.sg_maxmin.specs.Step.{IsLeast, IsStepped}
use Rattle.sg_maxmin_solve.specs.declared.filling.Filling.{Filling}
use Rattle.sg_maxmin_solve.specs.declared.limits.Least.{Least}
use Rattle.sg_maxmin_solve.specs.declared.limits.Low.{Low}
use Rattle.sg_maxmin_solve.specs.declared.limits.Span.{Span}
use Rattle.sg_maxmin_solve.specs.Component.{IsClosure, MarksRow}
use Rattle.sg_maxmin_solve.specs.Dates.{IsIdle}

-- the touched flows
abbrev pub flows_at : List (Option Flow) → List ℕ → List Flow
flows_at slots touched = map (flow_in slots) touched

-- the level at which a flow is fixed
abbrev pub fixed_at : List (Option ℕ) → ℕ → Option ℕ
fixed_at fixed id = slice_index_or fixed id None

-- the weight with which a flow waits
abbrev pub waits_with : Flow → Option ℕ → ℕ
waits_with flow fixed = if is_none fixed then flow.weight else 0

-- the level of a flow's bound
abbrev pub bound_limit : List (Option Flow) → ℕ → Option ℕ
bound_limit slots id = bound_of (flow_in slots id)

-- what limits a flow
abbrev pub limits_at : List (Option Flow) → List ℕ → ℕ → List ℕ
limits_at slots levels id = option_to_list (bound_limit slots id) ++ map (slice_index levels) (uses_at slots id)

-- what limits the unfixed flows
abbrev pub unfixed_limits : List (Option Flow) → List (Option ℕ) → List ℕ → List ℕ → List ℕ
unfixed_limits slots fixed levels touched = flat_map (λ id. if is_none (fixed_at fixed id) then limits_at slots levels id else []) touched

-- the step of a flow by its number
abbrev pub FlowSteps : List (Option Flow) → List ℕ → ℕ → List (Option ℕ) → List (Option ℕ) → ℕ → Type 0
FlowSteps slots levels low old new id = IsStepped low (IsLeast (Some low) (limits_at slots levels id)) (fixed_at old id) (fixed_at new id)

-- the same of each touched flow
abbrev pub AreStepped : Sharing → List ℕ → ℕ → Filling → Filling → Type 0
AreStepped s touched low old new =
    (i : ℕ) → i < length touched → FlowSteps s.slots old.levels.items low old.fixed.items new.fixed.items (slice_index touched i)

-- the touched flows are held
pub record ArePart (s : Sharing) (touched : List ℕ) : Type 0 where
  pub sound : IsSound s
  pub held : All (λ id. IsSome (flow_at s.slots id)) touched

-- a flow's weight on a resource, as often as it uses it
abbrev pub weight_on : List (Option Flow) → ℕ → ℕ → ℕ
weight_on slots id c = times c (uses_at slots id) * weight_at slots id

-- the weight of the touched flows on a resource
abbrev pub weight_of : List (Option Flow) → List ℕ → ℕ → ℕ
weight_of slots touched c = sum_by (λ id. weight_on slots id c) touched

-- what stands fixed on a resource, and the weights that wait there
abbrev pub taken_on : List (Option Flow) → List (Option ℕ) → List ℕ → ℕ → ℕ
taken_on slots fixed touched c = sum_by (λ id. times c (uses_at slots id) * share_of_fixed (flow_in slots id) (fixed_at fixed id)) touched

abbrev pub waiting_on : List (Option Flow) → List (Option ℕ) → List ℕ → ℕ → ℕ
waiting_on slots fixed touched c = sum_by (λ id. times c (uses_at slots id) * waits_with (flow_in slots id) (fixed_at fixed id)) touched

-- both, at each resource
pub record AreCounted (s : Sharing) (fixed : List (Option ℕ)) (touched left waiting : List ℕ) (reached : ℕ → Bool) : Type 0 where
  pub left_is : (c : ℕ) → reached c ≡ true → slice_index left c ≡ slice_index s.capacities c - taken_on s.slots fixed touched c
  pub waiting_is : (c : ℕ) → reached c ≡ true → slice_index waiting c ≡ waiting_on s.slots fixed touched c

-- what a pass over the flows fixed on a resource, and the weights that wait there no more
abbrev pub gained : List (Option Flow) → List (Option ℕ) → List (Option ℕ) → List ℕ → ℕ → ℕ
gained slots old new touched c = sum_by (λ id. times c (uses_at slots id) * (share_of_fixed (flow_in slots id) (fixed_at new id) - share_of_fixed (flow_in slots id) (fixed_at old id))) touched

abbrev pub freed : List (Option Flow) → List (Option ℕ) → List (Option ℕ) → List ℕ → ℕ → ℕ
freed slots old new touched c = sum_by (λ id. times c (uses_at slots id) * (waits_with (flow_in slots id) (fixed_at old id) - waits_with (flow_in slots id) (fixed_at new id))) touched

-- so much is less at each resource, or more
abbrev pub IsLessBy : (ℕ → ℕ) → List ℕ → List ℕ → Type 0
IsLessBy amount old new = (c : ℕ) → slice_index new c ≡ slice_index old c - amount c

abbrev pub IsMoreBy : (ℕ → ℕ) → List ℕ → List ℕ → Type 0
IsMoreBy amount old new = (c : ℕ) → slice_index new c ≡ slice_index old c + amount c

-- there is a place for each flow and each resource of a system
pub record HasPlaces (s : Sharing) (filling : Filling) : Type 0 where
  pub sound : IsSound s
  pub fixed_len : length s.slots ≤ length filling.fixed.items
  pub holds_len : length filling.holds.items ≡ length s.capacities
  pub left_len : length filling.left.items ≡ length s.capacities
  pub waiting_len : length filling.waiting.items ≡ length s.capacities
  pub levels_len : length filling.levels.items ≡ length s.capacities
  pub stale_room : filling.stale.room ≡ length s.capacities
  pub slots : length filling.agenda ≡ length s.capacities

-- and the flow is held
pub record HasFlow (s : Sharing) (filling : Filling) (id : ℕ) : Type 0 where
  pub places : HasPlaces s filling
  pub held : IsSome (flow_at s.slots id)

-- what fixing a flow at this level does: at each resource that it uses its share is taken off what is left, it waits no more, and the level must be divided again; no level, hold or key changes, and each use is visited once
pub record FixesAt (s : Sharing) (flow low : ℕ) (old new : Filling) (before after : ℕ) : Type 0 where
  pub places : HasPlaces s new
  pub levels : new.levels.items ≡ old.levels.items
  pub agenda : new.agenda ≡ old.agenda
  pub holds : new.holds.items ≡ old.holds.items
  pub fixed : new.fixed.items ≡ slice_set old.fixed.items flow (Some low)
  pub left : IsLessBy (λ c. times c (uses_at s.slots flow) * share_at (flow_in s.slots flow) low) old.left.items new.left.items
  pub waiting : IsLessBy (weight_on s.slots flow) old.waiting.items new.waiting.items
  pub stale : MarksRow (uses_at s.slots flow) old.stale new.stale
  pub looks : after ≡ before + length (uses_at s.slots flow)

-- levels, holds, keys and what is fixed stay
pub record KeepsLevels (old new : Filling) : Type 0 where
  pub fixed : new.fixed.items ≡ old.fixed.items
  pub holds : new.holds.items ≡ old.holds.items
  pub levels : new.levels.items ≡ old.levels.items
  pub agenda : new.agenda ≡ old.agenda

-- a place for each of so many resources, and nobody waits
pub record HasResources (resources : ℕ) (filling : Filling) : Type 0 where
  pub holds_len : length filling.holds.items ≡ resources
  pub left_len : length filling.left.items ≡ resources
  pub waiting_len : length filling.waiting.items ≡ resources
  pub levels_len : length filling.levels.items ≡ resources
  pub stale_room : filling.stale.room ≡ resources
  pub slots : length filling.agenda ≡ resources
  pub idle : IsIdle filling

-- the level of a resource, if a flow waits there
abbrev pub level_where : ℕ → ℕ → List ℕ
level_where waiting level = if waiting == 0 then [] else level ∷ []

-- the levels of the resources on which a flow waits, and of the bounds of the unfixed flows
abbrev pub waited_levels : List ℕ → List ℕ → List ℕ → List ℕ
waited_levels waiting levels reached = flat_map (λ c. level_where (slice_index waiting c) (slice_index levels c)) reached

abbrev pub unfixed_bounds : List (Option Flow) → List (Option ℕ) → List ℕ → List ℕ
unfixed_bounds slots fixed touched = flat_map (λ id. if is_none (fixed_at fixed id) then option_to_list (bound_limit slots id) else []) touched

-- the level is no higher than the least one, if there is one
abbrev pub IsUpTo : ℕ → Option ℕ → Type 0
IsUpTo level None = Unit {0}
IsUpTo level (Some least) = level ≤ least

-- these places and the next one, or the next one alone if its level is below the least one, or these if it is above
abbrev pub IsNextOf : ℕ → ℕ → ℕ → Span → Span → Type 0
IsNextOf place level low old new =
    ((level < low) × (new.first ≡ place) × (new.end ≡ place + 1)) ⊎ (((level ≡ low) × (new.first ≡ old.first) × (new.end ≡ place + 1)) ⊎ ((low < level) × (new ≡ old)))

-- the same, if there may be no least level yet
abbrev pub IsNext : ℕ → ℕ → Least → Least → Type 0
IsNext place level old new =
    ((old.level ≡ None) × (new.at.first ≡ place) × (new.at.end ≡ place + 1)) ⊎ ((low : ℕ) × (old.level ≡ Some low) × IsNextOf place level low old.at new.at)

-- the resources of a level up to the least one on which a flow waits stand at these places
pub record AreAmong (reached waiting levels : List ℕ) (least : Option ℕ) (at : Span) : Type 0 where
  pub order : at.first ≤ at.end
  pub few : at.end ≤ length reached
  pub among : (i level : ℕ) → i < length reached → (slice_index waiting (slice_index reached i) ≡ 0 → ⊥) → slice_index levels (slice_index reached i) ≡ level → IsUpTo level least → (at.first ≤ i) × (i < at.end)

-- and those of the level of a step
pub record AreTaken (reached : List ℕ) (low : Low) (filling : Filling) : Type 0 where
  pub order : low.at.first ≤ low.at.end
  pub few : low.at.end ≤ length reached
  pub among : (i : ℕ) → i < length reached → (slice_index filling.waiting.items (slice_index reached i) ≡ 0 → ⊥) → slice_index filling.levels.items (slice_index reached i) ≡ low.level → (low.at.first ≤ i) × (i < low.at.end)

-- none of the list is below this; none: the list is empty
abbrev pub IsFloor : Option ℕ → List ℕ → Type 0
IsFloor None list = list ≡ []
IsFloor (Some floor) list = (x : ℕ) → Contains list x → floor ≤ x

-- it is above the level, or there is none
abbrev pub IsOver : Option ℕ → ℕ → Type 0
IsOver None level = Unit {0}
IsOver (Some floor) level = level < floor

-- the level is the least of the limits, and the floor is one of the bounds; none: there are no limits
abbrev pub IsLow : Option Low → List ℕ → List ℕ → Type 0
IsLow None limits bounds = limits ≡ []
IsLow (Some low) limits bounds = IsLeast (Some low.level) limits × IsFloor low.floor bounds

-- the touched flows with all resources that they use, and all flows on these; each of these has one
pub record AreJoined (s : Sharing) (touched reached : List ℕ) : Type 0 where
  pub part : ArePart s touched
  pub once : AllPairs (λ a b. a ≢ b) touched
  pub closed : IsClosure (uses_at s.slots) (users_on s.users) touched reached
  pub distinct : AllPairs (λ a b. a ≢ b) reached
  pub exist : All (λ c. c < length s.capacities) reached
  pub used : (c : ℕ) → is_in c reached ≡ true → 0 < length (users_on s.users c)

-- and there is a place for each, and nobody waits
pub record CanFill (s : Sharing) (touched reached : List ℕ) (filling : Filling) : Type 0 where
  pub joined : AreJoined s touched reached
  pub places : HasPlaces s filling
  pub idle : IsIdle filling

-- the levels of the reached resources are those of what is left and waits there
abbrev pub AreLevels : List ℕ → Filling → Type 0
AreLevels reached filling =
    (c : ℕ) → is_in c reached ≡ true →
    slice_index filling.levels.items c ≡ slice_index filling.left.items c / slice_index filling.waiting.items c

-- an unfixed flow that is at this level may be fixed there, and else all stays
abbrev pub MayStep : ℕ → Type 0 → Option ℕ → Option ℕ → Type 0
MayStep low at (Some level) after = after ≡ Some level
MayStep low at None after = (at × (after ≡ Some low)) ⊎ (after ≡ None)

-- nothing was taken off what is left of the resource, nor was its key
pub record StaysAt (c : ℕ) (old new : Filling) : Type 0 where
  pub fresh : is_in c old.stale.members ≡ false
  pub left : slice_index new.left.items c ≡ slice_index old.left.items c
  pub waiting : slice_index new.waiting.items c ≡ slice_index old.waiting.items c
  pub key : key_at new.agenda c ≡ key_at old.agenda c

-- a part of a step at this level: the levels stay, no flow waits anew, no key comes, and resources where a flow was fixed are noted as stale
pub record StepsPartly (s : Sharing) (low : ℕ) (old new : Filling) : Type 0 where
  pub places : HasPlaces s new
  pub levels : new.levels.items ≡ old.levels.items
  pub flows : (id : ℕ) → MayStep low (IsLeast (Some low) (limits_at s.slots old.levels.items id)) (fixed_at old.fixed.items id) (fixed_at new.fixed.items id)
  pub stays : (c : ℕ) → is_in c new.stale.members ≡ false → StaysAt c old new
  pub fewer : (c : ℕ) → slice_index new.waiting.items c ≤ slice_index old.waiting.items c
  pub gone : (c : ℕ) → key_at old.agenda c ≡ None → key_at new.agenda c ≡ None

-- the same if no resource is noted and no key taken
pub record FixesFlows (s : Sharing) (low : ℕ) (old new : Filling) : Type 0 where
  pub partly : StepsPartly s low old new
  pub agenda : new.agenda ≡ old.agenda
  pub holds : new.holds.items ≡ old.holds.items

-- how many uses the unfixed flows have
abbrev pub unfixed_uses : List (Option Flow) → List (Option ℕ) → List ℕ → ℕ
unfixed_uses slots fixed touched = sum_by (λ id. if is_none (fixed_at fixed id) then length (uses_at slots id) else 0) touched

-- what was counted stays so, and the uses of each flow that is fixed are walked twice
pub record KeepsCount (s : Sharing) (touched : List ℕ) (old new : Filling) (before after : ℕ) : Type 0 where
  pub counted : (reached : ℕ → Bool) → AreCounted s old.fixed.items touched old.left.items old.waiting.items reached → AreCounted s new.fixed.items touched new.left.items new.waiting.items reached
  pub looks : after + 2 * unfixed_uses s.slots new.fixed.items touched ≤ before + 2 * unfixed_uses s.slots old.fixed.items touched

-- what limits the unfixed flows of the row is at this level or above
abbrev pub AreAbove : Sharing → List ℕ → ℕ → Filling → Type 0
AreAbove s row low filling =
    (id : ℕ) → is_in id row ≡ true → fixed_at filling.fixed.items id ≡ None →
    (x : ℕ) → Contains (limits_at s.slots filling.levels.items id) x → low ≤ x

-- the resource is one, and no unfixed flow on it is limited below this level
pub record CanFixOn (s : Sharing) (low : ℕ) (filling : Filling) (resource : ℕ) : Type 0 where
  pub places : HasPlaces s filling
  pub exists : resource < length s.capacities
  pub above : AreAbove s (users_on s.users resource) low filling

-- the touched flows are held, each once; no unfixed one is limited below this level, and none has a bound below the floor
pub record CanFixBounded (s : Sharing) (touched : List ℕ) (low : ℕ) (floor : Option ℕ) (filling : Filling) : Type 0 where
  pub part : ArePart s touched
  pub once : AllPairs (λ a b. a ≢ b) touched
  pub places : HasPlaces s filling
  pub above : AreAbove s touched low filling
  pub floor_is : IsFloor floor (unfixed_bounds s.slots filling.fixed.items touched)

-- what fixes one flow, if it is unfixed, keeps the count of all flows among which it is
pub record FixesFlow (s : Sharing) (flow low : ℕ) (old new : Filling) (before after : ℕ) : Type 0 where
  pub fixes : FixesFlows s low old new
  pub count : (touched : List ℕ) → AllPairs (λ a b. a ≢ b) touched → is_in flow touched ≡ true → KeepsCount s touched old new before after

-- all flows of the row are fixed
abbrev pub AreFixed : List ℕ → Filling → Type 0
AreFixed row filling = (i : ℕ) → i < length row → IsSome (fixed_at filling.fixed.items (slice_index row i))

-- each touched flow is fixed at its level among the touched flows
abbrev pub AreLeveled : Sharing → List ℕ → Filling → Type 0
AreLeveled s touched filling =
    (i : ℕ) → i < length touched →
    fixed_at filling.fixed.items (slice_index touched i) ≡ Some (level_of s.capacities (flows_at s.slots touched) (flow_in s.slots (slice_index touched i)))

-- what was fixed stays at its level
abbrev pub KeepsFixed : Filling → Filling → Type 0
KeepsFixed old new = (id level : ℕ) → fixed_at old.fixed.items id ≡ Some level → fixed_at new.fixed.items id ≡ Some level

-- the same of the flows that aren't touched
abbrev pub KeepsOthers : List ℕ → Filling → Filling → Type 0
KeepsOthers touched old new =
    (id level : ℕ) → is_in id touched ≡ false →
    fixed_at old.fixed.items id ≡ Some level → fixed_at new.fixed.items id ≡ Some level

-- and the resources that aren't reached hold their flows where they did
abbrev pub KeepsHolds : List ℕ → Filling → Filling → Type 0
KeepsHolds reached old new = (c : ℕ) → is_in c reached ≡ false → fixed_at new.holds.items c ≡ fixed_at old.holds.items c
