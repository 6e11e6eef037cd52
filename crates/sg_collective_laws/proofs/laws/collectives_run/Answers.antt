use Rattle.sg_collective_laws.proofs.Whole.{run_expanded}
use Rattle.sg_collective_laws.proofs.laws.collectives_run.Goals as goal

pub returns : goal.returns
returns c = run_expanded
