-- What contracts see of a `Lazy`, and what a start, an end, a change, a rate update and more room do to it.
use Rattle.std.specs.Prelude.{◌≡◌, ◌≢◌, ℕ, ◌+◌, ◌-◌, ◌==◌, ◌≤◌, ◌⊎◌, ◌↔◌, Bool, true, false, IsTrue, Option, None, Some, if◌then◌else◌, List, [], ◌∷◌, ◌++◌, AllPairs, length, sum_by, slice_index, slice_set, option_map, refl}
use Rattle.std.specs.Coded.{Coded, code_by, coded×, coded_ℕ, coded_bool, coded_list, coded_option}
use Rattle.sg_base.specs.MarkSet.{is_in, with_mark}
use Rattle.sg_maxmin.specs.Fill.{Flow, share_of}
use Rattle.sg_maxmin.specs.Sharing.{flow_code}
use Rattle.sg_lazy.specs.RunningFlow.{RunningFlow, bounded_by, has_bound, running_at, flow_under, running_flows, flows_in}
use Rattle.sg_lazy.specs.Work.{is_joined, work}

-- the capacities, the flow under each number, those that ended since the last rate update, the resources whose capacities changed since, the numbers of the flows whose rates it changed, and room for so many more flows and uses
pub record Lazily : Type 0 where
  pub capacities : List ℕ
  pub slots : List (Option RunningFlow)
  pub ended : List Flow
  pub resources : List ℕ
  pub changed : List ℕ
  pub flow_room : ℕ
  pub use_room : ℕ

abbrev pub running_code : Coded RunningFlow
running_code = code_by (Flow × (ℕ × (Bool × Bool))) (coded× flow_code (coded× coded_ℕ (coded× coded_bool coded_bool))) (λ r. (r.flow, (r.rate, (r.began, r.marked)))) (λ p. record { flow = p.0; rate = p.1.0; began = p.1.1.0; marked = p.1.1.1 }) (λ _. refl)

abbrev pub lazily_code : Coded Lazily
lazily_code =
    code_by
    (List ℕ × (List (Option RunningFlow) × (List Flow × (List ℕ × (List ℕ × (ℕ × ℕ))))))
    (coded× (coded_list coded_ℕ) (coded× (coded_list (coded_option running_code)) (coded× (coded_list flow_code) (coded× (coded_list coded_ℕ) (coded× (coded_list coded_ℕ) (coded× coded_ℕ coded_ℕ))))))
    (λ s. (s.capacities, (s.slots, (s.ended, (s.resources, (s.changed, (s.flow_room, s.use_room)))))))
    (λ p. record { capacities = p.0; slots = p.1.0; ended = p.1.1.0; resources = p.1.1.1.0; changed = p.1.1.1.1.0; flow_room = p.1.1.1.1.1.0; use_room = p.1.1.1.1.1.1 })
    (λ _. refl)

-- nothing runs, and nothing ended or changed
pub record IsFresh (capacities : List ℕ) (s : Lazily) : Type 0 where
  pub capacities_are : s.capacities ≡ capacities
  pub slots : s.slots ≡ []
  pub ended : s.ended ≡ []
  pub resources : s.resources ≡ []
  pub changed : s.changed ≡ []

-- only the room changes, and that doesn't shrink
pub record IsRoomier (old new : Lazily) : Type 0 where
  pub capacities : new.capacities ≡ old.capacities
  pub runs : (id : ℕ) → running_at new.slots id ≡ running_at old.slots id
  pub ended : new.ended ≡ old.ended
  pub resources : new.resources ≡ old.resources
  pub changed : new.changed ≡ old.changed
  pub flow_room : old.flow_room ≤ new.flow_room
  pub use_room : old.use_room ≤ new.use_room

-- with one more flow, which began; its rate is 0 until the next rate update
abbrev pub with_flow : Lazily → ℕ → Flow → Lazily
with_flow s id flow = record s { slots = slice_set s.slots id (Some (record { flow = flow; rate = 0; began = true; marked = true })); flow_room = s.flow_room - 1; use_room = s.use_room - length flow.uses }

-- without a flow, which is one of those that ended; its room comes back by the next rate update
abbrev pub without_flow : Lazily → ℕ → Flow → Lazily
without_flow s id flow = record s { slots = slice_set s.slots id None; ended = s.ended ++ flow ∷ [] }

-- with another capacity of a resource, which is one of those whose capacities changed
abbrev pub with_other_capacity : Lazily → ℕ → ℕ → Lazily
with_other_capacity s resource capacity = record s { capacities = slice_set s.capacities resource capacity; resources = with_mark resource s.resources }

-- with this capacity of a resource: nothing changes if it is what it was
abbrev pub with_capacity : Lazily → ℕ → ℕ → Lazily
with_capacity s resource capacity = if slice_index s.capacities resource == capacity then s else with_other_capacity s resource capacity

-- with another bound of a flow, which is marked; its rate stays until the next rate update
abbrev pub with_other_bound : Lazily → ℕ → ℕ → Lazily
with_other_bound s id bound = record s { slots = slice_set s.slots id (option_map (bounded_by bound) (running_at s.slots id)) }

-- with this bound of a flow: nothing changes if it is what it was
abbrev pub with_bound : Lazily → ℕ → ℕ → Lazily
with_bound s id bound = if has_bound bound (running_at s.slots id) then s else with_other_bound s id bound

-- whether a rate update changed the rate of a flow: one that began counts as changed
abbrev pub DidChange : Option RunningFlow → Option RunningFlow → Type 0
DidChange (Some old) (Some new) = (old.began ≡ true) ⊎ (new.rate ≢ old.rate)
DidChange other another = ⊥

-- All rates are the max-min rates of the whole, those that changed are listed, and nothing is marked any more.
pub record IsSettled (old new : Lazily) : Type 0 where
  pub rates : (id : ℕ) (running : RunningFlow) → running_at new.slots id ≡ Some running → running.rate ≡ share_of new.capacities (flows_in new.slots) running.flow
  pub flows : (id : ℕ) → flow_under new.slots id ≡ flow_under old.slots id
  pub settled : (id : ℕ) (running : RunningFlow) → running_at new.slots id ≡ Some running → running.began ≡ false
  pub unmarked : (id : ℕ) (running : RunningFlow) → running_at new.slots id ≡ Some running → running.marked ≡ false
  pub changes : (id : ℕ) → IsTrue (is_in id new.changed) ↔ DidChange (running_at old.slots id) (running_at new.slots id)
  pub once : AllPairs (λ a b. a ≢ b) new.changed
  pub numbers : length new.slots ≡ length old.slots
  pub capacities_kept : new.capacities ≡ old.capacities
  pub none_ended : new.ended ≡ []
  pub no_resources : new.resources ≡ []
  pub flow_room_back : new.flow_room ≡ old.flow_room + length old.ended
  pub use_room_back : new.use_room ≡ old.use_room + sum_by (λ flow. length flow.uses) old.ended

-- the number of visits allowed in a rate update
abbrev pub looks_of : Lazily → ℕ
looks_of s = work (running_flows s.slots) s.ended s.resources

-- A flow that no change since the last rate update touches has the rate that it has in the whole.
abbrev pub KeepUntouched : Lazily → Type 0
KeepUntouched s = (id : ℕ) (running : RunningFlow) → running_at s.slots id ≡ Some running → is_joined (running_flows s.slots) s.ended s.resources running ≡ false → running.rate ≡ share_of s.capacities (flows_in s.slots) running.flow
