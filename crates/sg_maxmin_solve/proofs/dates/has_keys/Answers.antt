use Rattle.sg_maxmin_solve.proofs.Keyed.{there_some}
use Rattle.sg_maxmin_solve.proofs.dates.has_keys.Goals as goal

pub returns-in-Some-clause-some : goal.returns-in-Some-clause-some
returns-in-Some-clause-some c = λ e. (c.in-Some.field-0.0, there_some c.args.agenda.now _ _ c.in-Some.ensures.first.there)
