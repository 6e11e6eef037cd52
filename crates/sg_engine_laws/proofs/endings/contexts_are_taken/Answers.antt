use Rattle.sg_engine_laws.proofs.ending_lemmas.Given.{contexts_are_taken}
use Rattle.sg_engine_laws.proofs.endings.contexts_are_taken.Goals as goal

pub returns : goal.returns
returns c = contexts_are_taken
