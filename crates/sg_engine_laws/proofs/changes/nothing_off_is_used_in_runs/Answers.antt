use Rattle.sg_engine_laws.proofs.change_lemmas.Failures.{nothing_off_is_used_in_runs}
use Rattle.sg_engine_laws.proofs.changes.nothing_off_is_used_in_runs.Goals as goal

pub returns : goal.returns
returns c = nothing_off_is_used_in_runs
