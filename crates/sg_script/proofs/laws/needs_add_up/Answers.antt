use Rattle.sg_script.proofs.AllNeeds.{add_up}
use Rattle.sg_script.proofs.laws.needs_add_up.Goals as goal

pub returns : goal.returns
returns c = add_up
