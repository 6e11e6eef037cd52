-- Progressive filling by what each step fixes: the level of a flow is fixed once, and what is fixed is taken off the capacities.
use Rattle.std.specs.Prelude.{ℕ, zero, suc, ◌-◌, ◌/◌, ◌==◌, Bool, ◌&&◌, Option, None, Some, is_none, option_map, option_to_list, if◌then◌else◌, List, ◌++◌, map, filter, flat_map, sum_by, slice_index}
use Rattle.std.specs.List.{list_any}
use Rattle.sg_maxmin.specs.Fill.{Flow, is_on, share_at, bound_level, least}

-- which flows are fixed, and at which level
abbrev pub Fixed : Type 0
Fixed = Flow → Option ℕ

-- what a flow has of each of its resources: its share once it is fixed, and nothing before
abbrev pub share_of_fixed : Flow → Option ℕ → ℕ
share_of_fixed flow None = 0
share_of_fixed flow (Some level) = share_at flow level

-- the sum of the fixed shares on the resource
unfoldable pub taken : List Flow → Fixed → ℕ → ℕ
taken flows fixed resource = sum_by (λ flow. if is_on resource flow then share_of_fixed flow (fixed flow) else 0) flows

-- the sum of the weights of the unfixed flows on the resource
unfoldable pub waiting : List Flow → Fixed → ℕ → ℕ
waiting flows fixed resource = sum_by (λ flow. if is_on resource flow && is_none (fixed flow) then flow.weight else 0) flows

-- the level of the resource: what the fixed flows leave, for each unit of weight of the unfixed ones
unfoldable pub resource_level : List ℕ → List Flow → Fixed → ℕ → ℕ
resource_level capacities flows fixed resource = (slice_index capacities resource - taken flows fixed resource) / waiting flows fixed resource

-- what limits a flow: the level of its bound, and the levels of its resources
unfoldable pub flow_limits : List ℕ → List Flow → Fixed → Flow → List ℕ
flow_limits capacities flows fixed flow = option_to_list (option_map (bound_level flow.weight) flow.bound) ++ map (resource_level capacities flows fixed) flow.uses

-- the least level of all bounds of unfixed flows, and of all resources with an unfixed flow
unfoldable pub lowest_limit : List ℕ → List Flow → Fixed → ℕ
lowest_limit capacities flows fixed = least (flat_map (flow_limits capacities flows fixed) (filter (λ flow. is_none (fixed flow)) flows))

-- whether this is the level of the flow's bound, or of a resource that it uses
unfoldable pub is_limited_at : List ℕ → List Flow → Fixed → ℕ → Flow → Bool
is_limited_at capacities flows fixed low flow = list_any (λ limit. limit == low) (flow_limits capacities flows fixed flow)

-- One step: all unfixed flows that are at the lowest level are fixed there, in the same step.
unfoldable pub step : List ℕ → List Flow → Fixed → Fixed
step capacities flows fixed flow = if is_none (fixed flow) && is_limited_at capacities flows fixed (lowest_limit capacities flows fixed) flow then Some (lowest_limit capacities flows fixed) else fixed flow

-- so many steps, from this on
unfoldable pub steps_from : ℕ → List ℕ → List Flow → Fixed → Fixed
steps_from zero capacities flows fixed = fixed
steps_from (suc n) capacities flows fixed = steps_from n capacities flows (step capacities flows fixed)

-- at first no flow is fixed
abbrev pub unfixed : Fixed
unfixed flow = None
