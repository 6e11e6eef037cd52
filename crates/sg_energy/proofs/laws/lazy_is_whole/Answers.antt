use Rattle.sg_energy.proofs.Metering.{lazy_is_whole}
use Rattle.sg_energy.proofs.laws.lazy_is_whole.Goals as goal

pub returns : goal.returns
returns c = lazy_is_whole
