-- Flows and their levels by number, and the flows on a resource as a list of their numbers.
use Rattle.std.specs.Prelude.{◌≡◌, ℕ, ◌-◌, ◌/◌, ltb, Option, None, Some, IsSome, is_none, option_map, List, length, sum_by, slice_index, slice_index_or, if◌then◌else◌}
use Rattle.sg_maxmin.specs.Chained.{users_on}
use Rattle.sg_maxmin.specs.Fill.{Flow, flow, bound_level}
use Rattle.sg_maxmin.specs.Fixing.{Fixed, share_of_fixed, resource_level}
use Rattle.sg_maxmin.specs.Sharing.{Sharing, IsSound, flow_at, held, uses_at}

-- the weight and the bound of the flow in a slot; a slot without a flow weighs 1
abbrev pub slot_weight : Option Flow → ℕ
slot_weight None = 1
slot_weight (Some flow) = flow.weight

abbrev pub slot_bound : Option Flow → Option ℕ
slot_bound None = None
slot_bound (Some flow) = flow.bound

abbrev pub weight_at : List (Option Flow) → ℕ → ℕ
weight_at slots id = slot_weight (flow_at slots id)

abbrev pub bound_at : List (Option Flow) → ℕ → Option ℕ
bound_at slots id = slot_bound (flow_at slots id)

-- the flow under a number
abbrev pub flow_in : List (Option Flow) → ℕ → Flow
flow_in slots id = flow (uses_at slots id) (weight_at slots id) (bound_at slots id)

-- a flow of a sound system
pub record IsHeld (s : Sharing) (id : ℕ) : Type 0 where
  pub sound : IsSound s
  pub held : IsSome (flow_at s.slots id)

-- the level of a flow's bound, if it has one
abbrev pub bound_of : Flow → Option ℕ
bound_of flow = option_map (bound_level flow.weight) flow.bound

-- how many uses the flows under these numbers have
abbrev pub all_uses : List (Option Flow) → List ℕ → ℕ
all_uses slots row = sum_by (λ id. length (uses_at slots id)) row

-- the level under a number, if there is one
abbrev pub level_at : List (Option ℕ) → ℕ → Option ℕ
level_at levels id = slice_index_or levels id None

-- the flows of a lower level are fixed there, and no others
unfoldable pub when_below : Option ℕ → ℕ → Option ℕ
when_below None low = None
when_below (Some level) low = if ltb level low then Some level else None

abbrev pub below_at : List (Option ℕ) → ℕ → ℕ → Option ℕ
below_at levels low id = when_below (level_at levels id) low

-- what the fixed flows of a row have, the weight of the others, and the level of a resource with these flows on it
unfoldable pub row_taken : List (Option Flow) → (ℕ → Option ℕ) → List ℕ → ℕ
row_taken slots fixed row = sum_by (λ id. share_of_fixed (flow_in slots id) (fixed id)) row

unfoldable pub row_waiting : List (Option Flow) → (ℕ → Option ℕ) → List ℕ → ℕ
row_waiting slots fixed row = sum_by (λ id. if is_none (fixed id) then weight_at slots id else 0) row

unfoldable pub row_level : ℕ → List (Option Flow) → (ℕ → Option ℕ) → List ℕ → ℕ
row_level capacity slots fixed row = (capacity - row_taken slots fixed row) / row_waiting slots fixed row

-- The level of a resource depends on the flows on it alone.
abbrev pub RowTells : Type 0
RowTells =
    (s : Sharing) (fixed : Fixed) (c : ℕ) → IsSound s →
    resource_level s.capacities (held s.slots) fixed c ≡ row_level (slice_index s.capacities c) s.slots (λ id. fixed (flow_in s.slots id)) (users_on s.users c)
