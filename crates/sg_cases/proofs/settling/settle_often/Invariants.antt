use Rattle.sg_cases.specs.Pairs.{CanChange}
use Rattle.sg_cases.proofs.settling.settle_often.Given as goal

abbrev pub invariant-loop-settling : goal.invariant-loop-settling
invariant-loop-settling g l = CanChange l.draw.picked.room l.lazy l.whole l.twins.items
