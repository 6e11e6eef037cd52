use Rattle.sg_engine_laws.proofs.ending_lemmas.Ends.{more_is_the_same}
use Rattle.sg_engine_laws.proofs.endings.more_is_the_same.Goals as goal

pub returns : goal.returns
returns c = more_is_the_same
