use Rattle.std.proofs.Common.{◌<◌, suc, length, arith}
use Rattle.sg_queues.proofs.Moves.{alone_as, as_walked, head_below, seen_is, with_joined}
use Rattle.sg_queues.proofs.rings.Rings.join.Goals as goal

pub invariant_of-self : goal.invariant_of-self
invariant_of-self c =
    let inside = c.self.inside in
    let below : c.args.queue < length inside.heads.items = head_below inside.links.next.items inside.heads.items c.args.self.now c.args.queue c.self.view_is c.requires.queue in
    as_walked (with_joined c.self.invariant c.args.slot (suc c.args.queue) c.head_of-head.result (rw (← c.self.view_is) at c.requires.slot) (alone_as c.args.slot c.self.view_is c.requires.alone) (omega (arith, below)) (rw (← c.self.view_is) at c.head_of-head.ensures.is) c.exchange_before.ensures.linked c.exchange_before.ensures.exchanged)

pub returns-clause-joined : goal.returns-clause-joined
returns-clause-joined c =
    let inside = c.self.inside in
    let below : c.args.queue < length inside.heads.items = head_below inside.links.next.items inside.heads.items c.args.self.now c.args.queue c.self.view_is c.requires.queue in
    rw (← c.self.view_is)
    (seen_is
    (with_joined c.self.invariant c.args.slot (suc c.args.queue) c.head_of-head.result (rw (← c.self.view_is) at c.requires.slot) (alone_as c.args.slot c.self.view_is c.requires.alone) (omega (arith, below)) (rw (← c.self.view_is) at c.head_of-head.ensures.is) c.exchange_before.ensures.linked c.exchange_before.ensures.exchanged)
    c.exchange_before.ensures.exchanged.len)

pub returns-clause-apart : goal.returns-clause-apart
returns-clause-apart c = (invariant_of-self c).apart
