use Rattle.std.proofs.Common.{arith}
use Rattle.sg_maxmin_levels.proofs.Joined.{walk_fits}
use Rattle.sg_maxmin_levels.proofs.rounds.after_walk.Goals as goal

pub overflow_mul-result : goal.overflow_mul-result
overflow_mul-result c = omega (arith, walk_fits c.args.looks c.args.users c.args.times c.args.longest c.requires.enough c.requires.few, c.ranges.looks.fits)

pub overflow_sub-result-2 : goal.overflow_sub-result-2
overflow_sub-result-2 c = omega (arith, walk_fits c.args.looks c.args.users c.args.times c.args.longest c.requires.enough c.requires.few)

pub returns : goal.returns
returns c = omega (arith, walk_fits c.args.looks c.args.users c.args.times c.args.longest c.requires.enough c.requires.few)
