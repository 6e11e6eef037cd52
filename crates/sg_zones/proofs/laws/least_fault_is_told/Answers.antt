-- It holds of any rows.
use Rattle.sg_zones.proofs.Least.{tells_least}
use Rattle.sg_zones.proofs.laws.least_fault_is_told.Goals as goal

pub returns : goal.returns
returns c = tells_least c.args.platform.now
