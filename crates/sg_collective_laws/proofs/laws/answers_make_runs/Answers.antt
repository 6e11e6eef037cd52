use Rattle.sg_collective_laws.proofs.Runs.{runs_alike}
use Rattle.sg_collective_laws.proofs.laws.answers_make_runs.Goals as goal

pub returns : goal.returns
returns c = runs_alike
