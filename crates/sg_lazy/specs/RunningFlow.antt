-- The flows of a `Lazy`.
use Rattle.std.specs.Prelude.{ℕ, ◌==◌, Bool, true, false, Option, None, Some, option_map, List, filter_map, slice_index_or}
use Rattle.sg_maxmin.specs.Fill.{Flow}

-- a flow that runs, its last rate, whether it began since the last rate update, and whether it is marked: it began, or its bound changed since
pub record RunningFlow : Type 0 where
  pub flow : Flow
  pub rate : ℕ
  pub began : Bool
  pub marked : Bool

-- whether two bounds are the same
abbrev pub is_same_bound : Option ℕ → Option ℕ → Bool
is_same_bound None None = true
is_same_bound (Some a) (Some b) = a == b
is_same_bound a b = false

-- whether a flow runs, and has this bound
abbrev pub has_bound : ℕ → Option RunningFlow → Bool
has_bound bound None = false
has_bound bound (Some running) = is_same_bound running.flow.bound (Some bound)

-- the same under another bound, and marked
abbrev pub bounded_by : ℕ → RunningFlow → RunningFlow
bounded_by bound running = record running { flow = record running.flow { bound = Some bound }; marked = true }

-- what runs under a number
abbrev pub running_at : List (Option RunningFlow) → ℕ → Option RunningFlow
running_at slots id = slice_index_or slots id None

-- the flow that runs under a number
abbrev pub flow_under : List (Option RunningFlow) → ℕ → Option Flow
flow_under slots id = option_map (λ running. running.flow) (running_at slots id)

-- all that runs
abbrev pub running_flows : List (Option RunningFlow) → List RunningFlow
running_flows slots = filter_map (λ slot. slot) slots

-- the flows of all that runs
abbrev pub flows_in : List (Option RunningFlow) → List Flow
flows_in slots = filter_map (option_map (λ running. running.flow)) slots
