use Rattle.std.proofs.Common.{◌≡◌, ◌/◌, ◌<◌, ℕ, false, cond, eqb, None, Some, slice_index}
use Rattle.sg_base.specs.MarkSet.{is_in}
use Rattle.sg_maxmin_solve.specs.Filling.{fixed_at}
use Rattle.sg_maxmin_solve.proofs.alone.note_alone.Given as goal

abbrev pub invariant-loop-c : goal.invariant-loop-c
invariant-loop-c l = record {
  noted : (i : ℕ) → i < l.c-index → fixed_at l.holds (slice_index l.reached i) ≡ cond (eqb (slice_index l.system.capacities (slice_index l.reached i) / l.weight) l.low) (Some l.low) None;
  others : (c : ℕ) → is_in c l.reached ≡ false → fixed_at l.holds c ≡ fixed_at l.fn.holds c;
}
