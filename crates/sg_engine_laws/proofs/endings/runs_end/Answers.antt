use Rattle.sg_engine_laws.proofs.ending_lemmas.Ends.{runs_end}
use Rattle.sg_engine_laws.proofs.endings.runs_end.Goals as goal

pub returns : goal.returns
returns c = runs_end
