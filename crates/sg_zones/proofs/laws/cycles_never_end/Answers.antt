-- The zones above exist, and there are at most 1,024.
use Rattle.sg_zones.proofs.Cycles.{cycles_never_end}
use Rattle.sg_zones.proofs.laws.cycles_never_end.Goals as goal

pub returns : goal.returns
returns c = cycles_never_end c.args.platform.now c.rows_are_valid.ensures
