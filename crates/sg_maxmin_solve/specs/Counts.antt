-- How often the uses of touched flows stand in the rows of reached resources.
use Rattle.std.specs.Prelude.{◌≡◌, ◌≢◌, ℕ, ◌≤◌, List, AllPairs}
use Rattle.sg_maxmin.specs.Chained.{times}
use Rattle.sg_maxmin_solve.specs.Component.{Covers, lengths}

-- a flow stands in a resource's row as often as the resource in the flow's
abbrev pub AreBothWays : (ℕ → List ℕ) → (ℕ → List ℕ) → Type 0
AreBothWays flows users = (flow resource : ℕ) → times flow (users resource) ≡ times resource (flows flow)

-- All flows on the reached resources being touched, their rows hold no more than those of the touched flows.
abbrev pub CountsTwice : Type 0
CountsTwice = (flows users : ℕ → List ℕ) (touched reached : List ℕ) → AreBothWays flows users → AllPairs (λ a b. a ≢ b) reached → Covers users reached touched → lengths users reached ≤ lengths flows touched
