use Rattle.std.proofs.Common.{◌≡◌, ℕ, ◌<◌, false, length, slice_index}
use Rattle.sg_base.specs.MarkSet.{is_in}
use Rattle.sg_heap.specs.Agenda.{key_at}
use Rattle.sg_maxmin_solve.specs.Dates.{key_where}
use Rattle.sg_maxmin_solve.proofs.dates.date_all.Given as goal

abbrev pub invariant-loop-c : goal.invariant-loop-c
invariant-loop-c l = record {
  slots : length l.agenda ≡ length l.fn.agenda;
  listed : (i : ℕ) → i < l.c-index → key_at l.agenda (slice_index l.listed i) ≡ key_where (slice_index l.waiting (slice_index l.listed i)) (slice_index l.levels (slice_index l.listed i));
  others : (c : ℕ) → is_in c l.listed ≡ false → key_at l.agenda c ≡ key_at l.fn.agenda c;
}
