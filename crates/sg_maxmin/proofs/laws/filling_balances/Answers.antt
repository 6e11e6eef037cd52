use Rattle.sg_maxmin.proofs.Balance.{filling_balances_lem}
use Rattle.sg_maxmin.proofs.laws.filling_balances.Goals as goal

pub returns : goal.returns
returns c = filling_balances_lem
