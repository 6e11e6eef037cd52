use Rattle.sg_maxmin_levels.proofs.Changing.{hold_stays_lem}
use Rattle.sg_maxmin_levels.proofs.laws.hold_stays.Goals as goal

pub returns : goal.returns
returns c = hold_stays_lem
