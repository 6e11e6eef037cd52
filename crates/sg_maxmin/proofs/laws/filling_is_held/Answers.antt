use Rattle.sg_maxmin.proofs.Converse.{filling_is_held_lem}
use Rattle.sg_maxmin.proofs.laws.filling_is_held.Goals as goal

pub returns : goal.returns
returns c = filling_is_held_lem
