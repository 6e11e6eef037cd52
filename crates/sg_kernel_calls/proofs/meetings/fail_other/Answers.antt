use Rattle.std.proofs.Common.{sym, subst}
use Rattle.sg_kernel_calls.specs.World.{extent}
use Rattle.sg_kernel_calls.specs.kept.Sound.{IsSide}
use Rattle.sg_kernel_calls.proofs.meetings.fail_other.Goals as goal

pub answer_side-requires-clause-given : goal.answer_side-requires-clause-given
answer_side-requires-clause-given c =
    let side = c.requires.comer.side in
    subst (IsSide (extent c.args.fields.now.setup)) (sym c.for_receiver-given.ensures) (record { actor = c.requires.other.actor; bytes = side.bytes; message = side.message; rate = side.rate })
