use Rattle.std.proofs.Common.{◌<◌}
use Rattle.sg_engine.proofs.turns.end_of_run.Given as goal

abbrev pub invariant-loop-next : goal.invariant-loop-next
invariant-loop-next l = l.from < l.next
