use Rattle.sg_engine_laws.proofs.change_lemmas.Failing.{meetings_tell_both_in_runs}
use Rattle.sg_engine_laws.proofs.changes.meetings_tell_both_in_runs.Goals as goal

pub returns : goal.returns
returns c = meetings_tell_both_in_runs
