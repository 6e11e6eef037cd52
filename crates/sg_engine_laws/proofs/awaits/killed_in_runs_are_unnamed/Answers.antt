use Rattle.sg_engine_laws.proofs.await_lemmas.Killed.{killed_in_runs_are_unnamed}
use Rattle.sg_engine_laws.proofs.awaits.killed_in_runs_are_unnamed.Goals as goal

pub returns : goal.returns
returns c = killed_in_runs_are_unnamed
