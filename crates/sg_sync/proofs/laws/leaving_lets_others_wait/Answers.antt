use Rattle.std.proofs.Common.{arith}
use Rattle.sg_sync.proofs.Leaving.{times_stays, waits_nowhere, waits_stays}
use Rattle.sg_sync.proofs.laws.leaving_lets_others_wait.Goals as goal

pub returns-clause-gone : goal.returns-clause-gone
returns-clause-gone c = waits_nowhere

pub returns-clause-others : goal.returns-clause-others
returns-clause-others c o actor other differs =
    omega (arith, waits_stays actor other o.locking differs, waits_stays actor other o.acquiring differs, times_stays actor other o.arrived differs)
