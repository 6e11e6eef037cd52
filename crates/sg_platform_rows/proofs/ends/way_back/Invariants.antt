use Rattle.std.proofs.Common.{◌≡◌, ◌++◌, length}
use Rattle.sg_platform_rows.specs.Ends.{way_back}
use Rattle.sg_platform_rows.proofs.ends.way_back.Given as goal

abbrev pub invariant-loop-left : goal.invariant-loop-left
invariant-loop-left l = way_back l.ends l.links ≡ l.back.items ++ way_back l.ends l.left

abbrev pub decreases-loop-left : goal.decreases-loop-left
decreases-loop-left l = length l.left
