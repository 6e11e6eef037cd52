-- Max-min shares of flows of equal weight: the weighted shares, if each weight is 1.
use Rattle.std.specs.Prelude.{◌≡◌, ℕ, zero, suc, ◌-◌, ◌/◌, ◌==◌, Bool, ◌&&◌, Contains, Some, is_none, unwrap_or, option_to_list, if◌then◌else◌, List, ◌++◌, map, filter, flat_map, length, sum_by, count_by, slice_index}
use Rattle.std.specs.List.{list_any}
use Rattle.sg_maxmin.specs.Fill.{Flow, is_on, least, fill}
use Rattle.sg_maxmin.specs.Fixing.{Fixed, unfixed}

-- the sum of the fixed shares on the resource: a share is the level at which it was fixed
unfoldable pub equal_taken : List Flow → Fixed → ℕ → ℕ
equal_taken flows fixed resource = sum_by (λ flow. if is_on resource flow then unwrap_or (fixed flow) 0 else 0) flows

-- the number of unfixed flows on it
unfoldable pub equal_waiting : List Flow → Fixed → ℕ → ℕ
equal_waiting flows fixed resource = count_by (λ flow. is_on resource flow && is_none (fixed flow)) flows

-- the level of the resource: what the fixed flows leave, for each of the unfixed ones
unfoldable pub equal_level : List ℕ → List Flow → Fixed → ℕ → ℕ
equal_level capacities flows fixed resource = (slice_index capacities resource - equal_taken flows fixed resource) / equal_waiting flows fixed resource

-- what limits a flow: its bound, and the levels of its resources
unfoldable pub equal_limits : List ℕ → List Flow → Fixed → Flow → List ℕ
equal_limits capacities flows fixed flow = option_to_list flow.bound ++ map (equal_level capacities flows fixed) flow.uses

-- the least of all bounds of unfixed flows, and of all levels of resources with an unfixed flow
unfoldable pub equal_lowest : List ℕ → List Flow → Fixed → ℕ
equal_lowest capacities flows fixed = least (flat_map (equal_limits capacities flows fixed) (filter (λ flow. is_none (fixed flow)) flows))

-- whether this is the flow's bound, or the level of a resource that it uses
unfoldable pub is_equal_limit : List ℕ → List Flow → Fixed → ℕ → Flow → Bool
is_equal_limit capacities flows fixed low flow = list_any (λ limit. limit == low) (equal_limits capacities flows fixed flow)

-- One step: all unfixed flows that are at the lowest level get it, in the same step.
unfoldable pub equal_step : List ℕ → List Flow → Fixed → Fixed
equal_step capacities flows fixed flow = if is_none (fixed flow) && is_equal_limit capacities flows fixed (equal_lowest capacities flows fixed) flow then Some (equal_lowest capacities flows fixed) else fixed flow

-- so many steps, from this on
unfoldable pub equal_steps : ℕ → List ℕ → List Flow → Fixed → Fixed
equal_steps zero capacities flows fixed = fixed
equal_steps (suc n) capacities flows fixed = equal_steps n capacities flows (equal_step capacities flows fixed)

-- the share of a flow among these flows, of whatever weight
unfoldable pub equal_share : List ℕ → List Flow → Flow → ℕ
equal_share capacities flows flow = unwrap_or (equal_steps (length flows) capacities flows unfixed flow) 0

-- the share of each flow
abbrev pub equal_fill : List ℕ → List Flow → List ℕ
equal_fill capacities flows = map (equal_share capacities flows) flows

-- each flow weighs 1
abbrev pub AllWeighOne : List Flow → Type 0
AllWeighOne flows = (other : Flow) → Contains flows other → other.weight ≡ 1

-- If each weight is 1, the weighted max-min shares are the unweighted ones.
abbrev pub FillsEqually : Type 0
FillsEqually = (capacities : List ℕ) (flows : List Flow) → AllWeighOne flows → fill capacities flows ≡ equal_fill capacities flows
