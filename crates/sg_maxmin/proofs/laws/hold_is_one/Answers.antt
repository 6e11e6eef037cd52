use Rattle.sg_maxmin.proofs.OneHold.{hold_is_one_lem}
use Rattle.sg_maxmin.proofs.laws.hold_is_one.Goals as goal

pub returns : goal.returns
returns c = hold_is_one_lem
