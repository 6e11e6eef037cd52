-- A platform without zone faults is good.
use Rattle.sg_route.specs.Roads.{roads_of}
use Rattle.sg_route_laws.proofs.Good.{good_from, nested}
use Rattle.sg_route_laws.proofs.Levels.{follows_lowest_zone}
use Rattle.sg_route_laws.proofs.laws.follows_lowest_zone.Goals as goal

pub returns : goal.returns
returns c = follows_lowest_zone (roads_of c.args.sound.platform.now) (nested c.args.sound.platform.now (good_from c.args.sound.platform.now c.rows_are_valid.ensures c.args.sound.sound))
