use Rattle.simgrid_replay.proofs.TellingLemmas.{told_front}
use Rattle.simgrid_replay.proofs.reports.say.Goals as goal

pub returns-in-Err-clause-prints : goal.returns-in-Err-clause-prints
returns-in-Err-clause-prints g c = told_front c.args.to _ c.args.status _ _ (rw c.as_bytes.ensures.value at c.in-Err.ensures.front) c.in-Err.ensures.other
