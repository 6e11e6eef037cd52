use Rattle.std.proofs.Common.{◌≡◌, length}
use Rattle.sg_heap.specs.Agenda.{key_count}
use Rattle.sg_paths.proofs.ahead.clear.Given as goal

abbrev pub invariant-loop-i : goal.invariant-loop-i
invariant-loop-i l = record {
  slots : length l.ahead.agenda ≡ length l.initial.ahead.agenda;
  lefts : l.ahead.left ≡ l.initial.ahead.left;
}

abbrev pub decreases-loop-i : goal.decreases-loop-i
decreases-loop-i l = key_count l.ahead.agenda
