-- A platform without zone faults is good.
use Rattle.sg_route_laws.proofs.Good.{good_from}
use Rattle.sg_route_laws.proofs.StarGateways.{star_joins_gateways}
use Rattle.sg_route_laws.proofs.laws.star_joins_gateways.Goals as goal

pub returns : goal.returns
returns c = star_joins_gateways c.args.sound.platform.now (good_from c.args.sound.platform.now c.rows_are_valid.ensures c.args.sound.sound)
