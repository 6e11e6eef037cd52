use Rattle.sg_collective_laws.proofs.Whole.{output_expanded}
use Rattle.sg_collective_laws.proofs.laws.collectives_write.Goals as goal

pub returns : goal.returns
returns c = output_expanded
