use Rattle.std.proofs.Common.{◌≡◌, ℕ, ◌<◌, false, Some, slice_index}
use Rattle.sg_base.specs.MarkSet.{is_in}
use Rattle.sg_maxmin_solve.specs.Filling.{fixed_at}
use Rattle.sg_maxmin_solve.proofs.last_step.fix_touched.Given as goal

abbrev pub invariant-loop-flow : goal.invariant-loop-flow
invariant-loop-flow l = record {
  fixed_are : (i : ℕ) → i < l.flow-index → fixed_at l.fixed (slice_index l.touched i) ≡ Some l.low;
  others : (id : ℕ) → is_in id l.touched ≡ false → fixed_at l.fixed id ≡ fixed_at l.fn.fixed id;
}
