use Rattle.sg_maxmin_levels.proofs.Changing.{slack_is_above_lem}
use Rattle.sg_maxmin_levels.proofs.laws.slack_is_above.Goals as goal

pub returns : goal.returns
returns c = slack_is_above_lem
