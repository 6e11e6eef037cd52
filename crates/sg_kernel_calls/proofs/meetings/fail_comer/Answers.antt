use Rattle.std.proofs.Common.{sym, subst}
use Rattle.sg_kernel_calls.specs.World.{extent}
use Rattle.sg_kernel_calls.specs.kept.Sound.{IsSide}
use Rattle.sg_kernel_calls.proofs.Mets.{sides_limited}
use Rattle.sg_kernel_calls.proofs.meetings.fail_comer.Goals as goal

pub answer_now-requires-clause-bytes : goal.answer_now-requires-clause-bytes
answer_now-requires-clause-bytes c =
    let e = extent c.args.fields.now.setup in
    (subst (IsSide e) (sym c.sender_of-bytes.ensures) (sides_limited e c.args.comer.now c.args.other c.requires.takes_part.comer.side c.requires.other).0).bytes
