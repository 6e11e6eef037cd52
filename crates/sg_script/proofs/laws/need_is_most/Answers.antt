use Rattle.sg_script.proofs.AllNeeds.{most}
use Rattle.sg_script.proofs.laws.need_is_most.Goals as goal

pub returns : goal.returns
returns c = most
