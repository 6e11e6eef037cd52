use Rattle.sg_maxmin_levels.proofs.Changing.{slack_holds_none_lem}
use Rattle.sg_maxmin_levels.proofs.laws.slack_holds_none.Goals as goal

pub returns : goal.returns
returns c = slack_holds_none_lem
