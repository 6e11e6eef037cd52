use Rattle.sg_maxmin.proofs.Converse.{others_hold_none_lem}
use Rattle.sg_maxmin.proofs.laws.others_hold_none.Goals as goal

pub returns : goal.returns
returns c = others_hold_none_lem
