use Rattle.sg_maxmin.proofs.Converse.{full_holds_lem}
use Rattle.sg_maxmin.proofs.laws.full_holds.Goals as goal

pub returns : goal.returns
returns c = full_holds_lem
