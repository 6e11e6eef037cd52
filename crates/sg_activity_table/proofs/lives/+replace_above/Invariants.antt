use Rattle.std.proofs.Common.{◌-◌}
use Rattle.slab.specs.Slab.{slab_len}
use Rattle.sg_activity_table.proofs.lives.+replace_above.Given as goal

abbrev pub decreases-replace_above : goal.decreases-replace_above
decreases-replace_above l = l.slab.now.capacity - slab_len l.slab.now
