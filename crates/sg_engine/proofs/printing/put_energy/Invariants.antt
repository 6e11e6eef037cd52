use Rattle.std.proofs.Common.{◌++◌, drop}
use Rattle.sg_engine.specs.kept.Writing.{IsPut}
use Rattle.sg_engine.specs.kept.Listed.{energy_lines}
use Rattle.sg_engine.proofs.printing.put_energy.Given as goal

abbrev pub invariant-loop-i : goal.invariant-loop-i
invariant-loop-i g l =
    let energies = l.end.kernel.now.core.under.energy in
    IsPut g.O.Sinks.contents g.O.Sinks.faults (l.fn.buffer ++ energy_lines l.end.plan.platform.now l.end.plan.deployment.now energies 0 l.end.plan.platform.now.hosts) (l.buffer ++ energy_lines l.end.plan.platform.now l.end.plan.deployment.now energies l.i (drop l.i l.end.plan.platform.now.hosts))
    l.fn.out.sink l.out.sink
