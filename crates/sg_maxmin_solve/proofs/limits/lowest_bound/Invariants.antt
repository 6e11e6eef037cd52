use Rattle.std.proofs.Common.{take}
use Rattle.sg_maxmin.specs.Step.{IsLeast}
use Rattle.sg_maxmin_solve.specs.Filling.{unfixed_bounds}
use Rattle.sg_maxmin_solve.proofs.limits.lowest_bound.Given as goal

abbrev pub invariant-loop-flow : goal.invariant-loop-flow
invariant-loop-flow l = IsLeast l.least (unfixed_bounds l.system.slots l.fixed (take l.flow-index l.touched))
