use Rattle.std.proofs.Common.{sym}
use Rattle.sg_queues.proofs.Places.{nothing_in}
use Rattle.sg_queues.proofs.by_serial.far_value.Goals as goal

pub returns-then-is_empty : goal.returns-then-is_empty
returns-then-is_empty g c = sym (nothing_in c.args.far.now (c.is_empty.ensures.0 c.if-is_empty.true) c.args.serial)
