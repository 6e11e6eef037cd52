use Rattle.sg_engine_laws.proofs.change_lemmas.Reached.{awaited_are_drawn}
use Rattle.sg_engine_laws.proofs.changes.awaited_are_drawn.Goals as goal

pub returns : goal.returns
returns c = awaited_are_drawn
