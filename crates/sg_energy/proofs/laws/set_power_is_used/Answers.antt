use Rattle.sg_energy.proofs.Metering.{set_power_is_used}
use Rattle.sg_energy.proofs.laws.set_power_is_used.Goals as goal

pub returns : goal.returns
returns c = set_power_is_used
