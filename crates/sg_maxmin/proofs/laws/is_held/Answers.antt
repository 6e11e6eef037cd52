use Rattle.sg_maxmin.proofs.Held.{is_held_lem}
use Rattle.sg_maxmin.proofs.laws.is_held.Goals as goal

pub returns : goal.returns
returns c = is_held_lem
