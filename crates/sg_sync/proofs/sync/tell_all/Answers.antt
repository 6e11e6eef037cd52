use Rattle.std.proofs.Common.{◌∙◌, ap, sym, length, length-append, arith}
use Rattle.sg_queues.specs.Rings.{queue_at}
use Rattle.sg_sync.proofs.Counts.{front_some}
use Rattle.sg_sync.proofs.sync.tell_all.Goals as goal

pub push_reserved-requires : goal.push_reserved-requires
push_reserved-requires c =
    let queue = queue_at c.loop-actor.arrived.queues 0 in
    let some = front_some queue c.in-Some.actor (sym c.in-Some.is ∙ c.take_first.ensures.first) in
    omega (arith, some, ap length c.loop-actor.invariant.told, length-append c.loop-actor.others.items queue, c.loop-actor.invariant.few, c.loop-actor.invariant.room)
