use Rattle.std.proofs.Common.{◌≡◌, ℕ, ◌<◌, false, Some, slice_index}
use Rattle.sg_base.specs.MarkSet.{is_in}
use Rattle.sg_maxmin_solve.specs.Filling.{fixed_at}
use Rattle.sg_maxmin_solve.specs.Holds.{MayHold}
use Rattle.sg_maxmin_solve.proofs.last_step.note_reached.Given as goal

abbrev pub invariant-loop-c : goal.invariant-loop-c
invariant-loop-c l = record {
  others : (c : ℕ) → is_in c l.reached ≡ false → fixed_at l.holds c ≡ fixed_at l.fn.holds c;
  may : (c : ℕ) → MayHold l.low (slice_index l.levels c) (fixed_at l.fn.holds c) (fixed_at l.holds c);
  noted : (i : ℕ) → i < l.c-index → slice_index l.levels (slice_index l.reached i) ≡ l.low → fixed_at l.holds (slice_index l.reached i) ≡ Some l.low;
  gone : (i : ℕ) → i < l.c-index → slice_index l.waiting (slice_index l.reached i) ≡ 0;
  kept : (c : ℕ) → is_in c l.reached ≡ false → slice_index l.waiting c ≡ slice_index l.fn.waiting c;
}
