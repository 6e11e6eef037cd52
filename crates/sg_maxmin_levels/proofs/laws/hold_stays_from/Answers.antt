use Rattle.sg_maxmin_levels.proofs.Changing.{hold_stays_from_lem}
use Rattle.sg_maxmin_levels.proofs.laws.hold_stays_from.Goals as goal

pub returns : goal.returns
returns c = hold_stays_from_lem
