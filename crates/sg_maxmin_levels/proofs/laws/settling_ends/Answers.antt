use Rattle.sg_maxmin_levels.proofs.Steps.{settling_ends_lem}
use Rattle.sg_maxmin_levels.proofs.laws.settling_ends.Goals as goal

pub returns : goal.returns
returns c = settling_ends_lem
