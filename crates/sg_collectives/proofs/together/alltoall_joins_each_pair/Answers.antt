use Rattle.sg_collectives.proofs.Pairs.{alltoall_joins_each_pair}
use Rattle.sg_collectives.proofs.together.alltoall_joins_each_pair.Goals as goal

pub returns : goal.returns
returns c = alltoall_joins_each_pair
