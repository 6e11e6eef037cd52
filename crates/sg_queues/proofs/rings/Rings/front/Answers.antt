use Rattle.std.proofs.Common.{◌<◌, suc, length, arith}
use Rattle.std.proofs.lemmas.List.{get_or_read}
use Rattle.sg_queues.proofs.Moves.{first_is, head_below}
use Rattle.sg_queues.proofs.rings.Rings.front.Goals as goal

pub index-requires : goal.index-requires
index-requires c =
    let within : c.head_of-head.result < length c.self.inside.links.next.items = rw (← c.self.view_is) at c.head_of-head.ensures.within in
    omega (arith, within, c.self.inside.links.next.ok.0)

pub returns-else-first-head : goal.returns-else-first-head
returns-else-first-head c =
    let inside = c.self.inside in
    let head = c.head_of-head.result in
    let within : head < length inside.links.next.items = rw (← c.self.view_is) at c.head_of-head.ensures.within in
    let below : c.args.queue < length inside.heads.items = head_below inside.links.next.items inside.heads.items c.args.self.now c.args.queue c.self.view_is c.requires in
    rw (← c.self.view_is)
    (first_is c.self.invariant (suc c.args.queue) c.index.result.now head (omega (arith, below)) (rw (← c.self.view_is) at c.head_of-head.ensures.is)
    (get_or_read inside.links.next.items head c.index.result.now within c.index.ensures head) c.if-first-head.false)
