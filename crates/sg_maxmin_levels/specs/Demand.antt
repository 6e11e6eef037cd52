-- The demand on a resource: a sum over its flows that shows without a visit that a resource holds none.
use Rattle.std.specs.Prelude.{ℕ, ◌+◌, ◌-◌, ◌*◌, ◌^◌, ◌<◌, min, Option, None, Some, List, sum_by, slice_index}
use Rattle.sg_maxmin.specs.Chained.{users_on}
use Rattle.sg_maxmin.specs.Fill.{Flow, share_at}
use Rattle.sg_maxmin.specs.Sharing.{Sharing, IsSound}
use Rattle.sg_maxmin.specs.Numbered.{flow_in, level_at}
use Rattle.sg_maxmin.specs.Held.{IsHold}
use Rattle.sg_maxmin_levels.specs.Changes.{AreWithin}

-- What a flow adds: its share, of which no more than 64 bits hold, and twice its weight. Without a level it is more than any capacity.
abbrev pub demand_of : Flow → Option ℕ → ℕ
demand_of flow None = 2 ^ 64
demand_of flow (Some level) = min (share_at flow level) (2 ^ 64 - 1) + 2 * flow.weight

unfoldable pub row_demand : List (Option Flow) → List (Option ℕ) → List ℕ → ℕ
row_demand slots levels row = sum_by (λ id. demand_of (flow_in slots id) (level_at levels id)) row

-- A resource that offers more than the demand on it holds none of its flows.
abbrev pub DemandHoldsNone : Type 0
DemandHoldsNone =
    (s : Sharing) (levels : List (Option ℕ)) (c : ℕ) → IsSound s → AreWithin s.slots levels (users_on s.users c) →
    slice_index s.capacities c < 2 ^ 64 → row_demand s.slots levels (users_on s.users c) < slice_index s.capacities c →
    IsHold (slice_index s.capacities c) s.slots levels (users_on s.users c) None
