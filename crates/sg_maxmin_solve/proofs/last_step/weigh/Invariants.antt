use Rattle.std.proofs.Common.{◌≡◌, ◌+◌, sum_by, take}
use Rattle.sg_maxmin.specs.Numbered.{weight_at}
use Rattle.sg_maxmin_solve.proofs.last_step.weigh.Given as goal

abbrev pub invariant-loop-flow : goal.invariant-loop-flow
invariant-loop-flow l = l.weight ≡ l.rest + sum_by (weight_at l.system.slots) (take l.flow-index l.touched)
