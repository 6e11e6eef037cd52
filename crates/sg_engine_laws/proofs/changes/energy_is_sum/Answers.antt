use Rattle.sg_engine_laws.proofs.change_lemmas.Energy.{energy_is_sum}
use Rattle.sg_engine_laws.proofs.changes.energy_is_sum.Goals as goal

pub returns : goal.returns
returns c = energy_is_sum
