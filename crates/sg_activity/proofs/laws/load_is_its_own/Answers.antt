use Rattle.sg_activity.proofs.Loads.{load_is_its_own_lem, power_is_its_own_lem}
use Rattle.sg_activity.proofs.laws.load_is_its_own.Goals as goal

pub returns-clause-load : goal.returns-clause-load
returns-clause-load c = load_is_its_own_lem

pub returns-clause-power : goal.returns-clause-power
returns-clause-power c = power_is_its_own_lem
