use Rattle.std.proofs.Common.{lt-ltb, le-ltb, refl}
use Rattle.sg_maxmin.specs.Numbered.{when_below}
use Rattle.sg_maxmin_levels.proofs.hold.below.Goals as goal

pub returns-in_err-level : goal.returns-in_err-level
unfolding when_below
returns-in_err-level c = rw (c.from_residual.ensures, c.in_err-level.was) refl

pub returns-then-level-low : goal.returns-then-level-low
unfolding when_below
returns-then-level-low c = rw (c.in_ok-level.was, lt-ltb c.in_ok-level.level c.args.low c.if-level-low.true) refl

pub returns-else-level-low : goal.returns-else-level-low
unfolding when_below
returns-else-level-low c = rw (c.in_ok-level.was, le-ltb c.in_ok-level.level c.args.low c.if-level-low.false) refl
