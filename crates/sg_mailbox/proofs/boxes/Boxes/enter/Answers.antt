use Rattle.std.proofs.Common.{sym, subst}
use Rattle.sg_mailbox.specs.Posts.{AreBelow}
use Rattle.sg_mailbox.proofs.boxes.Boxes.enter.Goals as goal

pub enter-requires-clause-above : goal.enter-requires-clause-above
enter-requires-clause-above c = subst (AreBelow c.args.serial.0) (sym c.self.view_is) c.requires.above
