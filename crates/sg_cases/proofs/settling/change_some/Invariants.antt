use Rattle.sg_cases.specs.Pairs.{CanChange}
use Rattle.sg_cases.proofs.settling.change_some.Given as goal

abbrev pub invariant-loop-change : goal.invariant-loop-change
invariant-loop-change l = CanChange l.draw.picked.room l.lazy l.whole l.twins.items
