use Rattle.sg_engine_laws.proofs.await_lemmas.Reached.{killed_leave_nothing}
use Rattle.sg_engine_laws.proofs.awaits.killed_leave_nothing.Goals as goal

pub returns : goal.returns
returns c = killed_leave_nothing
