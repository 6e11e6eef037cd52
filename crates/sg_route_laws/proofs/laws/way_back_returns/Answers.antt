-- It holds of any rows.
use Rattle.sg_route_laws.proofs.Backs.{way_back_returns}
use Rattle.sg_route_laws.proofs.laws.way_back_returns.Goals as goal

pub returns : goal.returns
returns c = way_back_returns c.args.platform.now
