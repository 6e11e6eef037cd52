use Rattle.sg_engine_laws.proofs.await_lemmas.Reached.{ended_are_unnamed}
use Rattle.sg_engine_laws.proofs.awaits.ended_are_unnamed.Goals as goal

pub returns : goal.returns
returns c = ended_are_unnamed
