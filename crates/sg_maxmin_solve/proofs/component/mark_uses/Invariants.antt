use Rattle.std.proofs.Common.{◌≡◌, ◌+◌, ◌<◌, ◌≤◌, ℕ, Bool, IsTrue, length, slice_index}
use Rattle.sg_maxmin.specs.Sharing.{uses_at}
use Rattle.sg_maxmin.specs.Walk.{next_of_flow, resource_of, left_from}
use Rattle.sg_maxmin.proofs.Walked.{IsWalk}
use Rattle.sg_base.specs.MarkSet.{is_in}
use Rattle.sg_maxmin_solve.specs.Component.{AllPass, RowPasses, Grows}
use Rattle.sg_maxmin_solve.proofs.component.mark_uses.Given as goal

abbrev pub invariant-loop-at : goal.invariant-loop-at
invariant-loop-at g l = (k : ℕ) × record {
  walk : IsWalk next_of_flow resource_of l.system.uses (uses_at l.system.slots l.flow) k l.at;
  grows : Grows l.fn.reached.members l.reached.members;
  room : l.reached.room ≡ l.fn.reached.room;
  done : (i : ℕ) → i < k → IsTrue (is_in (slice_index (uses_at l.system.slots l.flow) i) l.reached.members);
  few : length l.reached.members ≤ length l.fn.reached.members + k;
  least : (q : ℕ → Bool) → RowPasses q (uses_at l.system.slots l.flow) → AllPass q l.fn.reached.members → AllPass q l.reached.members;
  looks : l.steps ≡ l.fn.steps + k;
}

abbrev pub decreases-loop-at : goal.decreases-loop-at
decreases-loop-at g l = left_from (length l.system.uses) next_of_flow l.system.uses l.at
