use Rattle.sg_maxmin.proofs.Proved.{keeps_bound_lem}
use Rattle.sg_maxmin.proofs.laws.keeps_bound.Goals as goal

pub returns : goal.returns
returns c = keeps_bound_lem
