-- What is kept from one rate update to the next.
use Rattle.std.specs.Prelude.{◌≡◌, ◌≢◌, ℕ, ◌<◌, Bool, true, false, if◌then◌else◌, Option, None, Some, List, [], ◌∷◌, Contains, filter, length, sum_by, slice_index, slice_set}
use Rattle.sg_base.specs.MarkSet.{is_in, with_mark}
use Rattle.sg_maxmin.specs.Fill.{Flow, is_on, share_of}
use Rattle.sg_maxmin.specs.Sharing.{HasLimit}
use Rattle.sg_maxmin.specs.Laws.{HaveLimits}
use Rattle.sg_lazy.specs.Touch.{touches, IsClosed}
use Rattle.sg_lazy.specs.RunningFlow.{RunningFlow, bounded_by, running_at, flows_in}

-- no marked flow uses the resource, nor one that ended since the last update, and its capacity didn't change
pub record IsUnmarked (slots : List (Option RunningFlow)) (ended : List Flow) (resources : List ℕ) (resource : ℕ) : Type 0 where
  pub unused : (id : ℕ) (running : RunningFlow) → running_at slots id ≡ Some running → running.marked ≡ true → is_on resource running.flow ≡ false
  pub gone : (flow : Flow) → Contains ended flow → is_on resource flow ≡ false
  pub same : is_in resource resources ≡ false

-- Each unmarked flow has its rate from the flows and capacities of the last rate update, which are unchanged on unmarked resources.
pub record AreKept (capacities : List ℕ) (slots : List (Option RunningFlow)) (ended : List Flow) (resources : List ℕ) : Type 0 where
  pub past_capacities : List ℕ
  pub past : List Flow
  pub past_limits : HaveLimits past
  pub limits : (id : ℕ) (running : RunningFlow) → running_at slots id ≡ Some running → HasLimit running.flow
  pub there : (id : ℕ) (running : RunningFlow) → running_at slots id ≡ Some running → running.marked ≡ false → Contains past running.flow
  pub rates : (id : ℕ) (running : RunningFlow) → running_at slots id ≡ Some running → running.marked ≡ false → running.rate ≡ share_of past_capacities past running.flow
  pub same_capacities : (resource : ℕ) → IsUnmarked slots ended resources resource → slice_index past_capacities resource ≡ slice_index capacities resource
  pub same_flows : (resource : ℕ) → IsUnmarked slots ended resources resource → (amount : Flow → ℕ)
      → sum_by (λ flow. if is_on resource flow then amount flow else 0) past ≡ sum_by (λ flow. if is_on resource flow then amount flow else 0) (flows_in slots)

-- a start: a marked flow, if none was
abbrev pub StartKeeps : Type 0
StartKeeps = (capacities : List ℕ) (slots : List (Option RunningFlow)) (ended : List Flow) (resources : List ℕ) (id : ℕ) (running : RunningFlow) → AreKept capacities slots ended resources → id < length slots → running_at slots id ≡ None → running.marked ≡ true → HasLimit running.flow
    → AreKept capacities (slice_set slots id (Some running)) ended resources

-- an end
abbrev pub EndKeeps : Type 0
EndKeeps = (capacities : List ℕ) (slots : List (Option RunningFlow)) (ended : List Flow) (resources : List ℕ) (id : ℕ) (running : RunningFlow) → AreKept capacities slots ended resources → id < length slots → running_at slots id ≡ Some running
    → AreKept capacities (slice_set slots id None) (running.flow ∷ ended) resources

-- another capacity: the resource is marked
abbrev pub CapacityKeeps : Type 0
CapacityKeeps = (capacities : List ℕ) (slots : List (Option RunningFlow)) (ended : List Flow) (resources : List ℕ) (resource capacity : ℕ) → AreKept capacities slots ended resources → AreKept (slice_set capacities resource capacity) slots ended (with_mark resource resources)

-- another bound: the flow is marked
abbrev pub BoundKeeps : Type 0
BoundKeeps = (capacities : List ℕ) (slots : List (Option RunningFlow)) (ended : List Flow) (resources : List ℕ) (id bound : ℕ) (running : RunningFlow) → AreKept capacities slots ended resources → id < length slots → running_at slots id ≡ Some running
    → AreKept capacities (slice_set slots id (Some (bounded_by bound running))) ended resources

-- What a rate update does to one flow: a touched one gets its share among the touched flows, one that uses nothing its bound, and the others keep their rates.
pub record IsRated (capacities : List ℕ) (flows : List Flow) (reached : ℕ → Bool) (old : RunningFlow) (rate : ℕ) : Type 0 where
  pub touched : touches reached old.flow ≡ true → rate ≡ share_of capacities (filter (touches reached) flows) old.flow
  pub free : old.flow.uses ≡ [] → old.flow.bound ≡ Some rate
  pub others : touches reached old.flow ≡ false → old.flow.uses ≢ [] → rate ≡ old.rate

-- If all marked resources and their connected components are reached, all rates are those of the whole.
abbrev pub SettlesRates : Type 0
SettlesRates = (capacities : List ℕ) (slots : List (Option RunningFlow)) (ended : List Flow) (resources : List ℕ) (reached : ℕ → Bool) (id : ℕ) (old : RunningFlow) (rate : ℕ) → AreKept capacities slots ended resources → IsClosed (flows_in slots) reached
    → ((resource : ℕ) → reached resource ≡ false → IsUnmarked slots ended resources resource) → running_at slots id ≡ Some old → IsRated capacities (flows_in slots) reached old rate → rate ≡ share_of capacities (flows_in slots) old.flow

-- Once all rates are those of the whole, and nothing is marked, they are kept.
abbrev pub SettleKeeps : Type 0
SettleKeeps = (capacities : List ℕ) (slots : List (Option RunningFlow)) → ((id : ℕ) (running : RunningFlow) → running_at slots id ≡ Some running → HasLimit running.flow)
    → ((id : ℕ) (running : RunningFlow) → running_at slots id ≡ Some running → running.rate ≡ share_of capacities (flows_in slots) running.flow) → AreKept capacities slots [] []
