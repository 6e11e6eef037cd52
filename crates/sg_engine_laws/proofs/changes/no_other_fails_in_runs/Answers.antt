use Rattle.sg_engine_laws.proofs.change_lemmas.Failures.{no_other_fails_in_runs}
use Rattle.sg_engine_laws.proofs.changes.no_other_fails_in_runs.Goals as goal

pub returns : goal.returns
returns c = no_other_fails_in_runs
