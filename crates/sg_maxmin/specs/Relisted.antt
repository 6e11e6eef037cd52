-- The same capacities and flows, with the resources listed in another order.
use Rattle.std.specs.Prelude.{◌≡◌, ℕ, List, map, slice_index, IsTrue}
use Rattle.std.specs.List.{list_any, AllZip}
use Rattle.std.specs.List.Sorted.{IsPermutation}
use Rattle.sg_maxmin.specs.Fill.{Flow, is_on, fill}

-- some flow uses the resource
abbrev pub IsUsed : List Flow → ℕ → Type 0
IsUsed flows resource = IsTrue (list_any (is_on resource) flows)

-- the flow uses the same resources at their new places, in whatever order, and has the same weight and bound
pub record IsMoved (place : ℕ → ℕ) (flow moved : Flow) : Type 0 where
  pub uses : IsPermutation (map place flow.uses) moved.uses
  pub weight : moved.weight ≡ flow.weight
  pub bound : moved.bound ≡ flow.bound

-- Each resource that is used has a place of its own among the other capacities, and its capacity there; each flow uses the resources at these places.
pub record AreRelisted (place : ℕ → ℕ) (capacities relisted : List ℕ) (flows moved : List Flow) : Type 0 where
  pub own : (one other : ℕ) → IsUsed flows one → IsUsed flows other → place one ≡ place other → one ≡ other
  pub capacity : (resource : ℕ) → IsUsed flows resource → slice_index relisted (place resource) ≡ slice_index capacities resource
  pub each : AllZip (IsMoved place) flows moved

-- Wherever the resources are listed, the shares are the same.
abbrev pub FillsInAnyOrder : Type 0
FillsInAnyOrder = (place : ℕ → ℕ) (capacities relisted : List ℕ) (flows moved : List Flow) → AreRelisted place capacities relisted flows moved → fill relisted moved ≡ fill capacities flows
