use Rattle.sg_maxmin_levels.proofs.Between.{shares_noted}
use Rattle.sg_maxmin_levels.proofs.laws.shares_are_noted.Goals as goal

pub returns : goal.returns
returns c = shares_noted
