-- What hosts take, by their load.
use Rattle.std.specs.Prelude.{ℕ, ◌+◌, ◌-◌, ◌*◌, ◌/◌, ◌==◌, ◌&&◌, Bool, false, Option, None, Some, if◌then◌else◌, List, sum_by}
use Rattle.std.specs.List.{list_any}
use Rattle.sg_activity_table.specs.declared.kinds.Power.{Power}
use Rattle.sg_activity_table.specs.Kinds.{takes_share}
use Rattle.sg_activity_table.specs.Slots.{passes}
use Rattle.sg_activity.specs.Task.{Place, nowhere, on_host, over, Task}

-- whether this is the host
abbrev pub is_there : ℕ → Place → Bool
is_there host nowhere = false
is_there host (on_host other) = other == host
is_there host (over way) = false

-- whether it is an execution that takes a share of the host
abbrev pub loads : ℕ → Task → Bool
loads host task = takes_share task.kind && is_there host task.place

-- what a task takes of the host, at these rates
abbrev pub part_of_load : (Task → ℕ) → ℕ → Option Task → ℕ
part_of_load rate host None = 0
part_of_load rate host (Some task) = if loads host task then rate task else 0

-- what its executions take of the host together, at these rates; none: there is none
unfoldable pub load_by : (Task → ℕ) → ℕ → List (Option Task) → Option ℕ
load_by rate host tasks =
    if list_any (passes (loads host)) tasks then Some (sum_by (part_of_load rate host) tasks)
    else None

-- the power of a host that is on, at its capacity and load
abbrev pub power_by : Power → ℕ → Option ℕ → ℕ
power_by power capacity None = power.idle
power_by power capacity (Some load) =
    if capacity == 0 then power.epsilon
    else power.epsilon + (power.all - power.epsilon) * load / capacity

-- in milliwatts; 0 for a host without power
abbrev pub power_in : Option Power → Bool → ℕ → Option ℕ → ℕ
power_in None off capacity load = 0
power_in (Some power) off capacity load = if off then power.off else power_by power capacity load
