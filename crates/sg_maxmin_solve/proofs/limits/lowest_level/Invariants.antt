use Rattle.sg_maxmin_solve.proofs.Scanned.{IsScanned}
use Rattle.sg_maxmin_solve.proofs.limits.lowest_level.Given as goal

abbrev pub invariant-loop-k : goal.invariant-loop-k
invariant-loop-k l = IsScanned l.reached l.waiting l.levels l.k l.least
