use Rattle.sg_engine_laws.proofs.await_lemmas.Runs.{named_in_runs_are_awaited}
use Rattle.sg_engine_laws.proofs.awaits.named_in_runs_are_awaited.Goals as goal

pub returns : goal.returns
returns c = named_in_runs_are_awaited
