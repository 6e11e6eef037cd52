use Rattle.sg_maxmin_levels.proofs.Marked.{changes_keep_lem}
use Rattle.sg_maxmin_levels.proofs.laws.changes_keep.Goals as goal

pub returns : goal.returns
returns c = changes_keep_lem
