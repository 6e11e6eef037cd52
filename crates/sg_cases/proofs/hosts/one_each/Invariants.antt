use Rattle.sg_cases.specs.OneEach.{IsOneEach}
use Rattle.sg_cases.proofs.hosts.one_each.Given as goal

abbrev pub invariant-loop-host : goal.invariant-loop-host
invariant-loop-host g l = IsOneEach l.host l.lazy
