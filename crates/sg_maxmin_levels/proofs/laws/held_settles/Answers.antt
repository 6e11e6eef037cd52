use Rattle.sg_maxmin_levels.proofs.Steps.{held_settles_lem}
use Rattle.sg_maxmin_levels.proofs.laws.held_settles.Goals as goal

pub returns : goal.returns
returns c = held_settles_lem
