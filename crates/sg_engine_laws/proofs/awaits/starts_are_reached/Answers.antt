use Rattle.sg_engine_laws.proofs.await_lemmas.Reached.{starts_are_reached}
use Rattle.sg_engine_laws.proofs.awaits.starts_are_reached.Goals as goal

pub returns : goal.returns
returns c = starts_are_reached
