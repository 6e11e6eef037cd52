use Rattle.sg_engine_laws.proofs.await_lemmas.Reached.{named_are_awaited}
use Rattle.sg_engine_laws.proofs.awaits.named_are_awaited.Goals as goal

pub returns : goal.returns
returns c = named_are_awaited
