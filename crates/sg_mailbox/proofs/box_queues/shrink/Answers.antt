use Rattle.std.proofs.Common.{refl, arith}
use Rattle.sg_mailbox.proofs.Steps.{alike}
use Rattle.sg_mailbox.proofs.box_queues.shrink.Goals as goal

pub returns : goal.returns
returns c =
    alike c.args.kept.now _ c.requires.kept c.trim.ensures.same c.trim.ensures.count (omega (arith, c.trim.ensures.room, c.requires.kept.roomy.numbers, c.requires.more)) c.trim-2.ensures.same (omega (arith, c.trim-2.ensures.room, c.requires.kept.roomy.places, c.requires.more)) refl (omega arith) refl refl
