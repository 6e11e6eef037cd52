use Rattle.std.proofs.Common.{◌≡◌, ◌+◌, ◌*◌, ℕ, length, take, slice_index}
use Rattle.sg_maxmin.specs.Chained.{times}
use Rattle.sg_maxmin.specs.Sharing.{uses_at}
use Rattle.sg_maxmin.specs.Walk.{next_of_flow, resource_of, left_from}
use Rattle.sg_maxmin.proofs.Walked.{IsWalk}
use Rattle.sg_maxmin_solve.proofs.filling.add_uses.Given as goal

abbrev pub invariant-loop-at : goal.invariant-loop-at
invariant-loop-at g l = (k : ℕ) × record {
  walk : IsWalk next_of_flow resource_of l.system.uses (uses_at l.system.slots l.flow) k l.at;
  waiting : (c : ℕ) → slice_index l.waiting c ≡ slice_index l.fn.waiting c + times c (take k (uses_at l.system.slots l.flow)) * l.weight;
  looks : l.steps ≡ l.fn.steps + k;
}

abbrev pub decreases-loop-at : goal.decreases-loop-at
decreases-loop-at g l = left_from (length l.system.uses) next_of_flow l.system.uses l.at
