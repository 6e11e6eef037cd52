use Rattle.sg_collective_laws.proofs.Whole.{answers_expanded}
use Rattle.sg_collective_laws.proofs.laws.collectives_answer.Goals as goal

pub returns : goal.returns
returns c = answers_expanded
