-- How a `Lazy` keeps its flows: the system holds those that run, and until the next update those that ended.
use Rattle.std.specs.Prelude.{◌≡◌, ◌≢◌, ℕ, zero, suc, ◌+◌, ◌≤◌, ◌==◌, ◌||◌, not, true, false, if◌then◌else◌, Option, None, Some, IsSome, option_map, List, [], ◌∷◌, map, length, slice_index, AllPairs}
use Rattle.sg_base.specs.MarkSet.{MarkSet, is_in}
use Rattle.sg_maxmin.specs.Fill.{Flow, flow, share_of}
use Rattle.sg_maxmin.specs.Sharing.{Sharing, IsSound, flow_at, uses_at}
use Rattle.sg_maxmin_solve.specs.declared.parts.Parts.{Parts}
use Rattle.sg_lazy.specs.declared.settle.Pending.{Pending}
use Rattle.sg_lazy.specs.declared.settle.Rated.{Rated}
use Rattle.sg_lazy.specs.RunningFlow.{RunningFlow, flows_in}
use Rattle.sg_maxmin_solve.specs.Component.{lengths}
use Rattle.sg_lazy.specs.kept.Keeping.{AreKept}
use Rattle.sg_maxmin_solve.specs.Parts.{IsReady}

-- the list of what stands under each number below n
unfoldable pub listed : {X : Type 0} → ℕ → (ℕ → X) → List X
listed zero f = []
listed (suc n) f = f 0 ∷ listed n (λ i. f (suc i))

-- what runs under a number: a flow that is held, and didn't end
abbrev pub running_of : List (Option Flow) → List ℕ → List ℕ → List ℕ → List ℕ → ℕ → Option RunningFlow
running_of slots rates began marked ended id = if is_in id ended then None else option_map (λ held. record { flow = held; rate = slice_index rates id; began = is_in id began; marked = is_in id marked }) (flow_at slots id)

abbrev pub running_in : List (Option Flow) → List ℕ → List ℕ → List ℕ → List ℕ → List (Option RunningFlow)
running_in slots rates began marked ended = listed (length slots) (running_of slots rates began marked ended)

abbrev pub flow_or_none : Option Flow → Flow
flow_or_none None = flow [] 1 None
flow_or_none (Some held) = held

abbrev pub ended_in : List (Option Flow) → List ℕ → List Flow
ended_in slots ended = map (λ id. flow_or_none (flow_at slots id)) ended

-- nothing changed, and there is room for so many resources
pub record IsNothing (resources : ℕ) (pending : Pending) : Type 0 where
  pub began : pending.began.members ≡ []
  pub marked : pending.marked.members ≡ []
  pub ended : pending.ended.members ≡ []
  pub changed : pending.resources.members ≡ []
  pub room : pending.resources.room ≡ resources

-- there is room for all flows, and for all resources
pub record HasRoom (s : Sharing) (pending : Pending) (parts : Parts) (rated : Rated) : Type 0 where
  pub began : length s.slots ≤ pending.began.room
  pub marked : length s.slots ≤ pending.marked.room
  pub ended : length s.slots ≤ pending.ended.room
  pub resources : pending.resources.room ≡ length s.capacities
  pub ready : IsReady (length s.slots) (length s.capacities) parts
  pub rates : length s.slots ≤ length rated.rates.items
  pub changed : length s.slots ≤ rated.changed.room

-- all that a `Lazy` keeps
pub record IsLazy (s : Sharing) (rates began marked ended resources : List ℕ) : Type 0 where
  pub sound : IsSound s
  pub ended_are : (id : ℕ) → is_in id ended ≡ true → IsSome (flow_at s.slots id)
  pub marked_are : (id : ℕ) → is_in id marked ≡ true → IsSome (flow_at s.slots id)
  pub began_are : (id : ℕ) → is_in id began ≡ true → is_in id marked ≡ true
  pub kept : AreKept s.capacities (running_in s.slots rates began marked ended) (ended_in s.slots ended) resources

-- the system without the flows that ended
pub record IsWithout (old new : Sharing) (ended : List ℕ) : Type 0 where
  pub slots : (id : ℕ) → flow_at new.slots id ≡ (if is_in id ended then None else flow_at old.slots id)
  pub slots_len : length new.slots ≡ length old.slots
  pub capacities : new.capacities ≡ old.capacities
  pub flow_room : new.flow_room ≡ old.flow_room + length ended
  pub use_room : new.use_room ≡ old.use_room + lengths (uses_at old.slots) ended

-- the rates are the max-min rates of all that runs, and those that changed are noted
pub record IsRefilled (old new : Sharing) (began marked ended rates rates' changed : List ℕ) : Type 0 where
  pub without : IsWithout old new ended
  pub sound : IsSound new
  pub rates_are : (id : ℕ) (flow : Flow) → flow_at new.slots id ≡ Some flow → slice_index rates' id ≡ share_of old.capacities (flows_in (running_in old.slots rates began marked ended)) flow
  pub changed_are : (id : ℕ) (flow : Flow) → flow_at new.slots id ≡ Some flow → is_in id changed ≡ (is_in id began || not (slice_index rates id == slice_index rates' id))
  pub unchanged : (id : ℕ) → flow_at new.slots id ≡ None → is_in id changed ≡ false
  pub once : AllPairs (λ a b. a ≢ b) changed

-- the sets of flows have room for so many numbers
pub record HaveRoom (n : ℕ) (pending : Pending) (changed : MarkSet) : Type 0 where
  pub began : n ≤ pending.began.room
  pub marked : n ≤ pending.marked.room
  pub ended : n ≤ pending.ended.room
  pub rates : n ≤ changed.room

-- the same numbers, and no less room
pub record GrowsRoom (old new : MarkSet) : Type 0 where
  pub members : new.members ≡ old.members
  pub room : old.room ≤ new.room
