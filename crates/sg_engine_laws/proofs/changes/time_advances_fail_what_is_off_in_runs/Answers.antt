use Rattle.sg_engine_laws.proofs.change_lemmas.Failing.{time_advances_fail_what_is_off_in_runs}
use Rattle.sg_engine_laws.proofs.changes.time_advances_fail_what_is_off_in_runs.Goals as goal

pub returns : goal.returns
returns c = time_advances_fail_what_is_off_in_runs
