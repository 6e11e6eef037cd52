-- A platform without zone faults is good.
use Rattle.sg_route_laws.proofs.Good.{good_from}
use Rattle.sg_route_laws.proofs.StarWays.{star_goes_up_and_down}
use Rattle.sg_route_laws.proofs.laws.star_goes_up_and_down.Goals as goal

pub returns : goal.returns
returns c = star_goes_up_and_down c.args.sound.platform.now (good_from c.args.sound.platform.now c.rows_are_valid.ensures c.args.sound.sound)
