-- A platform without zone faults is good.
use Rattle.sg_route_laws.proofs.Good.{good_from, nested}
use Rattle.sg_route_laws.proofs.Complete.{complete_has_routes}
use Rattle.sg_route_laws.proofs.laws.complete_has_routes.Goals as goal

pub returns : goal.returns
returns c = complete_has_routes c.args.sound.platform.now (nested c.args.sound.platform.now (good_from c.args.sound.platform.now c.rows_are_valid.ensures c.args.sound.sound))
