use Rattle.sg_engine_laws.proofs.ending_lemmas.Given.{creates_are_given}
use Rattle.sg_engine_laws.proofs.endings.creates_are_given.Goals as goal

pub returns : goal.returns
returns c = creates_are_given
