use Rattle.std.proofs.Common.{◌++◌, drop}
use Rattle.sg_engine.specs.declared.show.Show.TheVariants.{All}
use Rattle.sg_engine.specs.kept.Writing.{IsPut}
use Rattle.sg_engine.specs.Output.{trace_of}
use Rattle.sg_engine.proofs.printing.put_records.Given as goal

abbrev pub invariant-loop-answered : goal.invariant-loop-answered
invariant-loop-answered g l =
    IsPut g.O.Sinks.contents g.O.Sinks.faults (l.fn.buffer ++ trace_of All l.plan.platform.now l.plan.deployment.now l.records) (l.buffer ++ trace_of All l.plan.platform.now l.plan.deployment.now (drop l.answered-index l.records))
    l.fn.out.sink l.out.sink
