use Rattle.std.proofs.Common.{◌≡◌, ℕ, ◌+◌, ◌<◌, false, None, take, slice_index}
use Rattle.sg_base.specs.MarkSet.{is_in}
use Rattle.sg_maxmin.specs.Sharing.{uses_at}
use Rattle.sg_maxmin_solve.specs.Component.{lengths}
use Rattle.sg_maxmin_solve.specs.Filling.{IsMoreBy, fixed_at, weight_of}
use Rattle.sg_maxmin_solve.proofs.filling.unfix.Given as goal

abbrev pub invariant-loop-flow : goal.invariant-loop-flow
invariant-loop-flow g l = record {
  fixed_are : (i : ℕ) → i < l.flow-index → fixed_at l.fixed (slice_index l.touched i) ≡ None;
  others : (id : ℕ) → is_in id l.touched ≡ false → fixed_at l.fixed id ≡ fixed_at l.fn.fixed id;
  waiting : IsMoreBy (weight_of l.system.slots (take l.flow-index l.touched)) l.fn.waiting l.waiting;
  looks : l.steps ≡ l.fn.steps + lengths (uses_at l.system.slots) (take l.flow-index l.touched);
}
