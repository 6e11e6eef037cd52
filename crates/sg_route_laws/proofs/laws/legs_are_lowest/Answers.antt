-- A platform without zone faults is good.
use Rattle.sg_route_laws.proofs.Good.{good_from}
use Rattle.sg_route_laws.proofs.Lowest.{legs_are_lowest}
use Rattle.sg_route_laws.proofs.laws.legs_are_lowest.Goals as goal

pub returns : goal.returns
returns c = legs_are_lowest c.args.sound.platform.now (good_from c.args.sound.platform.now c.rows_are_valid.ensures c.args.sound.sound)
