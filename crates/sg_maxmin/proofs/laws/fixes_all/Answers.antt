use Rattle.sg_maxmin.proofs.Proved.{fixes_all_lem}
use Rattle.sg_maxmin.proofs.laws.fixes_all.Goals as goal

pub returns : goal.returns
returns c = fixes_all_lem
