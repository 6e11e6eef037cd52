use Rattle.sg_maxmin.proofs.Held.{sums_change_lem}
use Rattle.sg_maxmin.proofs.laws.sums_change.Goals as goal

pub returns : goal.returns
returns c = sums_change_lem
