use Rattle.sg_maxmin.proofs.Proved.{fixes_once_lem}
use Rattle.sg_maxmin.proofs.laws.fixes_once.Goals as goal

pub returns : goal.returns
returns c = fixes_once_lem
