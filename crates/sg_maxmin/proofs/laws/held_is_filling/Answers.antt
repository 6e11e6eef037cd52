use Rattle.sg_maxmin.proofs.HeldLevels.{held_is_filling_lem}
use Rattle.sg_maxmin.proofs.laws.held_is_filling.Goals as goal

pub returns : goal.returns
returns c = held_is_filling_lem
