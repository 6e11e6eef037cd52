-- Laws of touched components and of the work of a rate update.
use Rattle.std.specs.Prelude.{◌≡◌, ◌≢◌, ℕ, Bool, false, IsTrue, Some, List, [], Contains, filter, length}
use Rattle.std.specs.List.Sorted.{IsPermutation}
use Rattle.sg_maxmin.specs.Fill.{Flow, share_of}
use Rattle.sg_maxmin.specs.Laws.{HaveLimits}
use Rattle.sg_lazy.specs.Touch.{touches, reach, IsClosed, SameBut, has_uses}
use Rattle.sg_lazy.specs.RunningFlow.{RunningFlow, running_at}
use Rattle.sg_lazy.specs.Work.{work}
use Rattle.sg_lazy.specs.Lazily.{Lazily, IsSettled, DidChange}

-- What is reached at all is reached in as many steps as there are flows.
abbrev pub AllReached : Type 0
AllReached = (flows : List Flow) (first : ℕ → Bool) (n resource : ℕ) → IsTrue (reach n flows first resource) → IsTrue (reach (length flows) flows first resource)

-- A flow that uses resources, none of them reached, keeps its rate, if all such flows were there before.
abbrev pub KeepsRate : Type 0
KeepsRate = (past_capacities capacities : List ℕ) (past flows : List Flow) (reached : ℕ → Bool) (flow : Flow) → HaveLimits past → HaveLimits flows → IsClosed flows reached → SameBut reached past_capacities capacities past flows
    → ((other : Flow) → Contains flows other → IsTrue (has_uses other) → touches reached other ≡ false → Contains past other)
    → Contains flows flow → IsTrue (has_uses flow) → touches reached flow ≡ false → share_of past_capacities past flow ≡ share_of capacities flows flow

-- A flow that uses no resource has its bound.
abbrev pub FreeRate : Type 0
FreeRate = (capacities : List ℕ) (flows : List Flow) (flow : Flow) (bound : ℕ) → HaveLimits flows → Contains flows flow → flow.uses ≡ [] → flow.bound ≡ Some bound → share_of capacities flows flow ≡ bound

-- The touched flows by themselves have the rates that they have in the whole.
abbrev pub TouchedRate : Type 0
TouchedRate = (capacities : List ℕ) (flows : List Flow) (reached : ℕ → Bool) (flow : Flow) → HaveLimits flows → IsClosed flows reached → Contains flows flow → IsTrue (touches reached flow)
    → share_of capacities (filter (touches reached) flows) flow ≡ share_of capacities flows flow

-- The order and the names of the flows don't matter, nor the order of the resources.
abbrev pub NamesDontMatter : Type 0
NamesDontMatter = (running running' : List RunningFlow) (ended ended' : List Flow) (resources resources' : List ℕ) → IsPermutation running running' → IsPermutation ended ended' → IsPermutation resources resources' → work running ended resources ≡ work running' ended' resources'

-- A second rate update changes a flow only by its rate.
abbrev pub SettledKeepsNone : Type 0
SettledKeepsNone = (first second third : Lazily) (id : ℕ) (old new : RunningFlow) → IsSettled first second → running_at second.slots id ≡ Some old → running_at third.slots id ≡ Some new → DidChange (Some old) (Some new) → new.rate ≢ old.rate
