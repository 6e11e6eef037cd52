use Rattle.std.proofs.Common.{arith}
use Rattle.sg_kernel_calls.proofs.events.count.Goals as goal

pub overflow_add-fields : goal.overflow_add-fields
overflow_add-fields c = omega (arith, c.requires.sound.within, c.requires.sound.budgeted, c.requires.left)
