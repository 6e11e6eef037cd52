use Rattle.std.proofs.Common.{refl, ap, arith}
use Rattle.sg_mailbox.proofs.Steps.{grown}
use Rattle.sg_mailbox.proofs.box_queues.grow.Goals as goal

pub returns-in_err-reserve-2-clause-stays : goal.returns-in_err-reserve-2-clause-stays
returns-in_err-reserve-2-clause-stays c =
    grown c.args.kept.now _ c.requires.kept c.reserve.ensures.entries.2 c.reserve.ensures.entries.1 c.reserve.ensures.spare c.reserve-2.ensures.same c.reserve-2.ensures.grows refl (omega arith) refl refl

pub returns-in_err-reserve-3-clause-stays : goal.returns-in_err-reserve-3-clause-stays
returns-in_err-reserve-3-clause-stays c =
    grown c.args.kept.now _ c.requires.kept c.reserve.ensures.entries.2 c.reserve.ensures.entries.1 c.reserve.ensures.spare c.reserve-2.ensures.same c.reserve-2.ensures.grows (ap (λ q. q.queues) c.reserve-3.ensures.kept) c.reserve-3.ensures.grows refl refl

pub returns-clause-stays : goal.returns-clause-stays
returns-clause-stays c =
    grown c.args.kept.now _ c.requires.kept c.reserve.ensures.entries.2 c.reserve.ensures.entries.1 c.reserve.ensures.spare c.reserve-2.ensures.same c.reserve-2.ensures.grows (ap (λ q. q.queues) c.reserve-3.ensures.kept) c.reserve-3.ensures.grows refl refl
