use Rattle.sg_platform_churn.proofs.NoZoneFault.{no_fault, tree_built}
use Rattle.sg_platform_churn.proofs.laws.churn_has_no_zone_fault.Goals as goal

pub returns : goal.returns
returns c = record { none = no_fault; tree = tree_built }
