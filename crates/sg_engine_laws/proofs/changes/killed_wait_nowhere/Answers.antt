use Rattle.sg_engine_laws.proofs.change_lemmas.Queues.{killed_wait_nowhere}
use Rattle.sg_engine_laws.proofs.changes.killed_wait_nowhere.Goals as goal

pub returns : goal.returns
returns c = killed_wait_nowhere
