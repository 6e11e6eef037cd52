use Rattle.sg_queues.proofs.Exchanges.{exchanged_before}
use Rattle.sg_queues.proofs.links.Links.exchange_before.Goals as goal

pub returns-clause-exchanged : goal.returns-clause-exchanged
returns-clause-exchanged c =
    rw (c.link-2.ensures.next, c.link.ensures.next, ← c.prev_of-before.ensures.is) (exchanged_before c.args.node c.args.slot _ _ c.requires.linked c.requires.node c.requires.slot c.prev_of-before.ensures.is c.next_of-after.ensures.is).0

pub returns-clause-linked : goal.returns-clause-linked
returns-clause-linked c =
    rw (c.link-2.ensures.next, c.link.ensures.next, c.link-2.ensures.prev, c.link.ensures.prev)
    (exchanged_before c.args.node c.args.slot _ _ c.requires.linked c.requires.node c.requires.slot c.prev_of-before.ensures.is c.next_of-after.ensures.is).1
