-- Weighted max-min fairness in whole units.
use Rattle.std.specs.Prelude.{◌≡◌, ℕ, ◌+◌, ◌-◌, ◌*◌, ◌<◌, ◌≤◌, ◌⊎◌, Some, List, Contains, if◌then◌else◌, sum_by, slice_index, IsTrue}
use Rattle.sg_maxmin.specs.Fill.{Flow, is_on, load}

-- the units that whole numbers may leave over: less than one level for each unit of weight, and what a bound takes off the last one
abbrev pub slack : List Flow → ℕ → ℕ
slack flows resource = sum_by (λ flow. if is_on resource flow then 2 * flow.weight - 1 else 0) flows

-- The flow uses the resource, no flow there has a greater share for its weight, and fewer units are left than its slack.
pub record IsBottleneck (capacities : List ℕ) (flows : List Flow) (share : Flow → ℕ) (flow : Flow) (resource : ℕ) : Type 0 where
  pub used : IsTrue (is_on resource flow)
  pub greatest : (other : Flow) → Contains flows other → IsTrue (is_on resource other) → share other * flow.weight ≤ share flow * other.weight
  pub full : slice_index capacities resource < load flows share resource + slack flows resource

-- No resource gives more than its capacity, and each flow has its bound as its share, or a bottleneck.
pub record IsFair (capacities : List ℕ) (flows : List Flow) (share : Flow → ℕ) : Type 0 where
  pub within : (resource : ℕ) → load flows share resource ≤ slice_index capacities resource
  pub limited : (flow : Flow) → Contains flows flow → (flow.bound ≡ Some (share flow)) ⊎ ((resource : ℕ) × IsBottleneck capacities flows share flow resource)
