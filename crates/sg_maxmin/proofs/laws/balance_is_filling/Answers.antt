use Rattle.sg_maxmin.proofs.Balance.{balance_is_filling_lem}
use Rattle.sg_maxmin.proofs.laws.balance_is_filling.Goals as goal

pub returns : goal.returns
returns c = balance_is_filling_lem
