use Rattle.sg_maxmin_levels.proofs.WayBack.{way_back_lem}
use Rattle.sg_maxmin_levels.proofs.laws.way_back.Goals as goal

pub returns : goal.returns
returns c = way_back_lem
