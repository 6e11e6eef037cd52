-- A flow on each of 100 resources.
use Rattle.std.specs.Prelude.{◌≡◌, ℕ, ◌+◌, ◌<◌, ◌≤◌, false, if◌then◌else◌, Option, Some, List, [], ◌∷◌, length, sum_by}
use Rattle.sg_maxmin.specs.Fill.{is_on}
use Rattle.sg_lazy.specs.RunningFlow.{RunningFlow, running_at, flows_in}
use Rattle.sg_lazy.specs.Lazily.{Lazily}

-- nothing runs on 100 resources
pub record IsIdle (s : Lazily) : Type 0 where
  pub resources : length s.capacities ≡ 100
  pub slots : s.slots ≡ []
  pub ended : s.ended ≡ []
  pub steady : s.resources ≡ []

-- how many flows use the resource
abbrev pub users_of : ℕ → List (Option RunningFlow) → ℕ
users_of resource slots = sum_by (λ flow. if is_on resource flow then 1 else 0) (flows_in slots)

-- on each of the first so many of 100 resources one flow, which uses no other
pub record IsOneEach (count_of_flows : ℕ) (s : Lazily) : Type 0 where
  pub resources : length s.capacities ≡ 100
  pub flow_room : 100 < s.flow_room + count_of_flows
  pub use_room : 100 < s.use_room + count_of_flows
  pub alone : (id : ℕ) (running : RunningFlow) → running_at s.slots id ≡ Some running → (resource : ℕ) × (running.flow.uses ≡ resource ∷ [])
  pub few : (resource : ℕ) → users_of resource s.slots ≤ 1
  pub none : (resource : ℕ) → count_of_flows ≤ resource → users_of resource s.slots ≡ 0
  pub ended : s.ended ≡ []
  pub steady : s.resources ≡ []

-- no flow is marked
abbrev pub IsCalm : Lazily → Type 0
IsCalm s = (id : ℕ) (running : RunningFlow) → running_at s.slots id ≡ Some running → running.marked ≡ false

-- a flow on each of 100 resources, none of them marked, and a resource among these
pub record HasOneAt (resource : ℕ) (s : Lazily) : Type 0 where
  pub each : IsOneEach 100 s
  pub calm : IsCalm s
  pub there : resource < 100
