use Rattle.sg_engine_laws.proofs.change_lemmas.Spares.{other_calls_end_nothing}
use Rattle.sg_engine_laws.proofs.changes.other_calls_end_nothing.Goals as goal

pub returns : goal.returns
returns c = other_calls_end_nothing
