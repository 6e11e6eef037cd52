use Rattle.sg_maxmin.proofs.Staged.{level_is_fixed_lem}
use Rattle.sg_maxmin.proofs.laws.level_is_fixed.Goals as goal

pub returns : goal.returns
returns c = level_is_fixed_lem
