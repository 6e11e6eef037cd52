use Rattle.std.proofs.Common.{◌≡◌, ℕ, ◌<◌, false, None, slice_index}
use Rattle.sg_base.specs.MarkSet.{is_in}
use Rattle.sg_maxmin_solve.specs.Filling.{fixed_at}
use Rattle.sg_maxmin_solve.proofs.filling.reset.Given as goal

abbrev pub invariant-loop-c : goal.invariant-loop-c
invariant-loop-c l = record {
  left : (i : ℕ) → i < l.c-index → slice_index l.left (slice_index l.reached i) ≡ slice_index l.system.capacities (slice_index l.reached i);
  holds : (i : ℕ) → i < l.c-index → fixed_at l.holds (slice_index l.reached i) ≡ None;
  holds_kept : (c : ℕ) → is_in c l.reached ≡ false → fixed_at l.holds c ≡ fixed_at l.fn.holds c;
}
