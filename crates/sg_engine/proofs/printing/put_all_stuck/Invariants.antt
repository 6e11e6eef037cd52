use Rattle.std.proofs.Common.{◌+◌, ◌++◌, drop}
use Rattle.sg_engine.specs.kept.Writing.{IsPut}
use Rattle.sg_engine.specs.kept.Listed.{stuck_lines}
use Rattle.sg_engine.proofs.printing.put_all_stuck.Given as goal

abbrev pub invariant-loop-i : goal.invariant-loop-i
invariant-loop-i g l =
    IsPut g.O.Sinks.contents g.O.Sinks.faults (l.fn.buffer ++ stuck_lines l.end.plan.platform.now l.end.plan.deployment.now 1 l.end.kernel.now.core.actors) (l.buffer ++ stuck_lines l.end.plan.platform.now l.end.plan.deployment.now (l.i + 1) (drop l.i l.end.kernel.now.core.actors))
    l.fn.out.sink l.out.sink
