use Rattle.sg_maxmin_levels.proofs.Between.{notes_on}
use Rattle.sg_maxmin_levels.proofs.laws.notes_add_up.Goals as goal

pub returns : goal.returns
returns c = notes_on
