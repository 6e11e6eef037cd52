use Rattle.sg_collectives.proofs.Turns.{bcast_reaches_each_once}
use Rattle.sg_collectives.proofs.together.bcast_reaches_each_once.Goals as goal

pub returns : goal.returns
returns c = bcast_reaches_each_once
