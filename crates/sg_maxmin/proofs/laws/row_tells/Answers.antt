use Rattle.sg_maxmin.proofs.OnRow.{row_tells_lem}
use Rattle.sg_maxmin.proofs.laws.row_tells.Goals as goal

pub returns : goal.returns
returns c = row_tells_lem
