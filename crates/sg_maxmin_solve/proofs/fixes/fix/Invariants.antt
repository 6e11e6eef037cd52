use Rattle.std.proofs.Common.{◌≡◌, ◌+◌, ◌-◌, ◌*◌, ◌<◌, ◌≤◌, ℕ, Bool, IsTrue, Some, length, take, slice_index, slice_set}
use Rattle.sg_base.specs.MarkSet.{is_in}
use Rattle.sg_maxmin.specs.Chained.{times}
use Rattle.sg_maxmin.specs.Walk.{next_of_flow, resource_of, left_from}
use Rattle.sg_maxmin.specs.Fill.{share_at}
use Rattle.sg_maxmin.specs.Sharing.{uses_at}
use Rattle.sg_maxmin.specs.Numbered.{flow_in}
use Rattle.sg_maxmin_solve.specs.Component.{AllPass, RowPasses, Grows}
use Rattle.sg_maxmin_solve.specs.Filling.{HasPlaces}
use Rattle.sg_maxmin.proofs.Walked.{IsWalk}
use Rattle.sg_maxmin_solve.proofs.fixes.fix.Given as goal

abbrev pub invariant-loop-at : goal.invariant-loop-at
invariant-loop-at g l = (k : ℕ) × record {
  walk : IsWalk next_of_flow resource_of l.system.uses (uses_at l.system.slots l.flow) k l.at;
  places : HasPlaces l.system l.filling;
  fixed : l.filling.fixed.items ≡ slice_set l.fn.filling.fixed.items l.flow (Some l.low);
  holds : l.filling.holds.items ≡ l.fn.filling.holds.items;
  levels : l.filling.levels.items ≡ l.fn.filling.levels.items;
  agenda : l.filling.agenda ≡ l.fn.filling.agenda;
  left : (c : ℕ) → slice_index l.filling.left.items c ≡ slice_index l.fn.filling.left.items c - times c (take k (uses_at l.system.slots l.flow)) * share_at (flow_in l.system.slots l.flow) l.low;
  waiting : (c : ℕ) → slice_index l.filling.waiting.items c ≡ slice_index l.fn.filling.waiting.items c - times c (take k (uses_at l.system.slots l.flow)) * l.weight;
  grows : Grows l.fn.filling.stale.members l.filling.stale.members;
  room : l.filling.stale.room ≡ l.fn.filling.stale.room;
  done : (i : ℕ) → i < k → IsTrue (is_in (slice_index (uses_at l.system.slots l.flow) i) l.filling.stale.members);
  few : length l.filling.stale.members ≤ length l.fn.filling.stale.members + k;
  least : (q : ℕ → Bool) → RowPasses q (uses_at l.system.slots l.flow) → AllPass q l.fn.filling.stale.members → AllPass q l.filling.stale.members;
  looks : l.steps ≡ l.fn.steps + k;
}

abbrev pub decreases-loop-at : goal.decreases-loop-at
decreases-loop-at g l = left_from (length l.system.uses) next_of_flow l.system.uses l.at
