use Rattle.std.proofs.Common.{◌≤◌, length}
use Rattle.sg_maxmin_solve.proofs.parts.grow_fixed.Given as goal

abbrev pub invariant-loop-number : goal.invariant-loop-number
invariant-loop-number l = record {
  grows : length l.fn.fixed.items ≤ length l.fixed.items;
  room : l._number ≤ length l.fixed.items;
}
