use Rattle.sg_engine_laws.proofs.await_lemmas.Runs.{ended_in_runs_are_unnamed}
use Rattle.sg_engine_laws.proofs.awaits.ended_in_runs_are_unnamed.Goals as goal

pub returns : goal.returns
returns c = ended_in_runs_are_unnamed
