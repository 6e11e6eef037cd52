use Rattle.sg_engine_laws.proofs.await_lemmas.Runs.{runs_are_reached}
use Rattle.sg_engine_laws.proofs.awaits.runs_are_reached.Goals as goal

pub returns : goal.returns
returns c = runs_are_reached
