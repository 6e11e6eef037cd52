use Rattle.sg_engine_laws.proofs.change_lemmas.Failing.{kills_fail_what_is_awaited_in_runs}
use Rattle.sg_engine_laws.proofs.changes.kills_fail_what_is_awaited_in_runs.Goals as goal

pub returns : goal.returns
returns c = kills_fail_what_is_awaited_in_runs
