use Rattle.sg_collectives.proofs.Folded.{reduce_takes_each_once}
use Rattle.sg_collectives.proofs.together.reduce_takes_each_once.Goals as goal

pub returns : goal.returns
returns c = reduce_takes_each_once
