use Rattle.sg_maxmin.proofs.Shares.{shares_same_lem}
use Rattle.sg_maxmin.proofs.laws.shares_same.Goals as goal

pub returns : goal.returns
returns c = shares_same_lem
