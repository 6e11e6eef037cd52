use Rattle.std.proofs.Common.{length}
use Rattle.sg_route.proofs.leg.+lowest_leg.Given as goal

abbrev pub decreases-lowest_leg : goal.decreases-lowest_leg
decreases-lowest_leg l = length l.above_from.now
