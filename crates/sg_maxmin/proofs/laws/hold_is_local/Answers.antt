use Rattle.sg_maxmin.proofs.OneHold.{hold_is_local_lem}
use Rattle.sg_maxmin.proofs.laws.hold_is_local.Goals as goal

pub returns : goal.returns
returns c = hold_is_local_lem
