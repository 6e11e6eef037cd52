-- The number of visits allowed in a rate update.
use Rattle.std.specs.Prelude.{ℕ, ◌+◌, ◌*◌, Bool, ◌&&◌, ◌||◌, if◌then◌else◌, List, map, length, sum_by}
use Rattle.std.specs.List.{list_any}
use Rattle.sg_base.specs.MarkSet.{is_in}
use Rattle.sg_maxmin.specs.Fill.{Flow, is_on}
use Rattle.sg_lazy.specs.Touch.{touches, reach}
use Rattle.sg_lazy.specs.RunningFlow.{RunningFlow}

-- whether a change since the last update marks the resource: a marked flow or one that ended uses it, or its capacity
-- changed
abbrev pub is_marked : List RunningFlow → List Flow → List ℕ → ℕ → Bool
is_marked running ended resources resource = list_any (λ r. r.marked && is_on resource r.flow) running || (list_any (is_on resource) ended || is_in resource resources)

-- whether a running flow is touched: it is marked, or a chain of running flows leads from it to a marked resource
unfoldable pub is_joined : List RunningFlow → List Flow → List ℕ → RunningFlow → Bool
is_joined running ended resources r = r.marked || touches (reach (length running) (map (λ s. s.flow) running) (is_marked running ended resources)) r.flow

-- how many flows are touched
abbrev pub touched_count : List RunningFlow → List Flow → List ℕ → ℕ
touched_count running ended resources = length ended + sum_by (λ r. if is_joined running ended resources r then 1 else 0) running

-- how many uses these have
abbrev pub touched_uses : List RunningFlow → List Flow → List ℕ → ℕ
touched_uses running ended resources = sum_by (λ flow. length flow.uses) ended + sum_by (λ r. if is_joined running ended resources r then length r.flow.uses else 0) running

-- the visits allowed in an update, if these flows run, these ended and the capacities of these resources
-- changed
unfoldable pub work : List RunningFlow → List Flow → List ℕ → ℕ
work running ended resources = 4 * (touched_count running ended resources + 1) * (touched_count running ended resources + touched_uses running ended resources)
