-- A platform without zone faults is good.
use Rattle.sg_route_laws.proofs.FullWays.{full_goes_as_declared}
use Rattle.sg_route_laws.proofs.Good.{good_from}
use Rattle.sg_route_laws.proofs.laws.full_goes_as_declared.Goals as goal

pub returns : goal.returns
returns c = full_goes_as_declared c.args.sound.platform.now (good_from c.args.sound.platform.now c.rows_are_valid.ensures c.args.sound.sound)
