-- Progressive filling in whole numbers, with weights: which share each flow gets of the resources that it uses.
use Rattle.std.specs.Prelude.{ℕ, zero, suc, ◌-◌, ◌*◌, ◌/◌, ◌==◌, min, Bool, not, Option, None, Some, option_map, option_to_list, if◌then◌else◌, List, [], ◌∷◌, ◌++◌, map, filter, flat_map, length, sum_by, slice_index}
use Rattle.std.specs.Int.{div_ceil}
use Rattle.std.specs.List.{enumerate_from, list_any}

-- what a flow asks for: the resources that it uses, each listed once, its weight, and its bound, if it has one
pub record Flow : Type 0 where
  pub uses : List ℕ
  pub weight : ℕ
  pub bound : Option ℕ

-- the flow with these uses, this weight and this bound
abbrev pub flow : List ℕ → ℕ → Option ℕ → Flow
flow uses weight bound = record { uses = uses; weight = weight; bound = bound }

-- whether the flow uses the resource
abbrev pub is_on : ℕ → Flow → Bool
is_on resource flow = list_any (λ used. used == resource) flow.uses

-- the sum of this amount over the flows on the resource
abbrev pub load : List Flow → (Flow → ℕ) → ℕ → ℕ
load flows amount resource = sum_by (λ flow. if is_on resource flow then amount flow else 0) flows

-- no more than the bound, if there is one
abbrev pub bounded : Option ℕ → ℕ → ℕ
bounded None share = share
bounded (Some bound) share = min bound share

-- the share of a flow at this level: the level for each unit of its weight, and no more than its bound
unfoldable pub share_at : Flow → ℕ → ℕ
share_at flow level = bounded flow.bound (flow.weight * level)

-- what the resources have left, and the flows that wait for their shares of it
pub record Stage : Type 0 where
  pub left : List ℕ
  pub waiting : List Flow

-- the level of the resource: what it has left, for each unit of weight that waits there
unfoldable pub level : Stage → ℕ → ℕ
level stage resource = slice_index stage.left resource / load stage.waiting (λ flow. flow.weight) resource

-- the level of a bound: at this level, and at no lower one, a flow of this weight has all of its bound
unfoldable pub bound_level : ℕ → ℕ → ℕ
bound_level weight bound = div_ceil bound weight

-- what limits a flow: the level of its bound, and the levels of its resources
unfoldable pub limits : Stage → Flow → List ℕ
limits stage flow = option_to_list (option_map (bound_level flow.weight) flow.bound) ++ map (level stage) flow.uses

-- the least of the numbers
unfoldable pub least : List ℕ → ℕ
least [] = 0
least (x ∷ []) = x
least (x ∷ y ∷ rest) = min x (least (y ∷ rest))

-- the lowest level: the least of all that limits the waiting flows
unfoldable pub lowest : Stage → ℕ
lowest stage = least (flat_map (limits stage) stage.waiting)

-- whether the flow is at the lowest level: that is the level of its bound, or of a resource that it uses
unfoldable pub is_at : Stage → Flow → Bool
is_at stage flow = list_any (λ limit. limit == lowest stage) (limits stage flow)

-- One step: all waiting flows that are at the lowest level are served in the same step. Each takes its share there from its resources.
unfoldable pub next : Stage → Stage
next stage =
    let served = filter (is_at stage) stage.waiting in
    record {
      left = map (λ p. p.1 - load served (λ flow. share_at flow (lowest stage)) p.0) (enumerate_from 0 stage.left);
      waiting = filter (λ flow. not (is_at stage flow)) stage.waiting;
    }

-- the level at which the flow is served: the lowest level of the first stage where the flow is at it, of so many from this one on
unfoldable pub level_from : ℕ → Stage → Flow → ℕ
level_from zero stage flow = 0
level_from (suc n) stage flow = if is_at stage flow then lowest stage else level_from n (next stage) flow

-- the level at which the flow is served: if each flow has a limit, each step serves one at least, and as many steps as there are flows serve all
unfoldable pub level_of : List ℕ → List Flow → Flow → ℕ
level_of capacities flows flow = level_from (length flows) (record { left = capacities; waiting = flows }) flow

-- the share of a flow among these flows
abbrev pub share_of : List ℕ → List Flow → Flow → ℕ
share_of capacities flows flow = share_at flow (level_of capacities flows flow)

-- the max-min share of each flow
abbrev pub fill : List ℕ → List Flow → List ℕ
fill capacities flows = map (share_of capacities flows) flows
