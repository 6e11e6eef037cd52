use Rattle.std.proofs.Common.{◌≡◌, ℕ, false, ◌/◌, ◌<◌, slice_index}
use Rattle.sg_base.specs.MarkSet.{is_in}
use Rattle.sg_maxmin_solve.proofs.steps.set_levels.Given as goal

abbrev pub invariant-loop-c : goal.invariant-loop-c
invariant-loop-c l = record {
  listed : (i : ℕ) → i < l.c-index → slice_index l.levels (slice_index l.listed i) ≡ slice_index l.left (slice_index l.listed i) / slice_index l.waiting (slice_index l.listed i);
  others : (c : ℕ) → is_in c l.listed ≡ false → slice_index l.levels c ≡ slice_index l.fn.levels c;
}
