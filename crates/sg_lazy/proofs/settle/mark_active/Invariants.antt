use Rattle.std.proofs.Common.{◌≡◌, ◌+◌, ◌<◌, ◌≤◌, ℕ, Bool, IsTrue, length, slice_index}
use Rattle.sg_base.specs.MarkSet.{is_in}
use Rattle.sg_maxmin_solve.specs.Component.{AllPass, RowPasses, Grows}
use Rattle.sg_lazy.proofs.settle.mark_active.Given as goal

abbrev pub invariant-loop-resource : goal.invariant-loop-resource
invariant-loop-resource l = record {
  grows : Grows l.fn.resources.members l.resources.members;
  room : l.resources.room ≡ l.fn.resources.room;
  done : (i : ℕ) → i < l.resource-index → IsTrue (is_in (slice_index l.levels.active.members i) l.resources.members);
  few : length l.resources.members ≤ length l.fn.resources.members + l.resource-index;
  least : (q : ℕ → Bool) → RowPasses q l.levels.active.members → AllPass q l.fn.resources.members → AllPass q l.resources.members;
}
