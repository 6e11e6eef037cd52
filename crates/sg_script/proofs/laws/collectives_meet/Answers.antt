use Rattle.sg_script.proofs.Meeting.{meet}
use Rattle.sg_script.proofs.laws.collectives_meet.Goals as goal

pub returns : goal.returns
returns c = meet
