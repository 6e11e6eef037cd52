use Rattle.sg_profile.proofs.Turns.{loops_come_again, others_come_once}
use Rattle.sg_profile.proofs.laws.turns_follow.Goals as goal

pub returns : goal.returns
returns c = record { again = loops_come_again; once = others_come_once }
