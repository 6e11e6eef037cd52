use Rattle.std.proofs.Common.{take}
use Rattle.sg_activity.specs.kept.Metered.{AreTold}
use Rattle.sg_activity.specs.kept.State.{state_of, under_of}
use Rattle.sg_activity.proofs.power.set_each.Given as goal

abbrev pub invariant-loop-host : goal.invariant-loop-host
invariant-loop-host l = AreTold (under_of (state_of l.kept)) l.fn.meter l.meter (take l.host-index l.hosts)
