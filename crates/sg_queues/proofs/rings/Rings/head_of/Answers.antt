use Rattle.std.proofs.Common.{◌<◌, suc, length, arith}
use Rattle.std.proofs.lemmas.List.{get_or_read}
use Rattle.sg_queues.proofs.Moves.{head_below, head_within}
use Rattle.sg_queues.proofs.rings.Rings.head_of.Goals as goal

pub returns-clause-is : goal.returns-clause-is
returns-clause-is c =
    let inside = c.self.inside in
    rw (← c.self.view_is) (get_or_read inside.heads.items c.args.queue c.index.result.now (head_below inside.links.next.items inside.heads.items c.args.self.now c.args.queue c.self.view_is c.requires) c.index.ensures 0)

pub returns-clause-within : goal.returns-clause-within
returns-clause-within c =
    let inside = c.self.inside in
    let below : c.args.queue < length inside.heads.items = head_below inside.links.next.items inside.heads.items c.args.self.now c.args.queue c.self.view_is c.requires in
    rw (← c.self.view_is) (head_within c.self.invariant (suc c.args.queue) c.index.result.now (omega (arith, below)) (get_or_read inside.heads.items c.args.queue c.index.result.now below c.index.ensures 0))
