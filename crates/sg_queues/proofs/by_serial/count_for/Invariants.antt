use Rattle.std.proofs.Common.{◌-◌, ◌<◌}
use Rattle.sg_queues.proofs.by_serial.count_for.Given as goal

abbrev pub invariant-loop-count : goal.invariant-loop-count
invariant-loop-count l = 0 < l.count

abbrev pub decreases-loop-count : goal.decreases-loop-count
decreases-loop-count l = 8192 - l.count
