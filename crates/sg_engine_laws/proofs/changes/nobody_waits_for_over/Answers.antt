use Rattle.sg_engine_laws.proofs.change_lemmas.Reached.{nobody_waits_for_over}
use Rattle.sg_engine_laws.proofs.changes.nobody_waits_for_over.Goals as goal

pub returns : goal.returns
returns c = nobody_waits_for_over
