use Rattle.sg_engine_laws.proofs.ending_lemmas.Ends.{parts_count_up}
use Rattle.sg_engine_laws.proofs.endings.parts_count.Goals as goal

pub returns : goal.returns
returns c = parts_count_up
