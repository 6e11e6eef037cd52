use Rattle.std.proofs.Common.{◌<◌, ◌∙◌, ap, sym, suc, length, arith}
use Rattle.std.specs.Prelude.{map}
use Rattle.std.proofs.lemmas.List.{length-map}
use Rattle.sg_queues.specs.Rings as rings
use Rattle.sg_queues.specs.Rings.{Rings, IsSlot}
use Rattle.sg_queues.proofs.Entries.{front_in}
use Rattle.sg_sync.specs.kept.Slots.{actor_of, waiting_in}
use Rattle.sg_sync.proofs.Slots.{shortened_is}
use Rattle.sg_sync.proofs.queues.Queues.take_first.Goals as goal
use Rattle.sg_sync.proofs.queues.Queues.take_first.Goals.{In_ok-slot}

first : (c : In_ok-slot) → IsSlot c.self.inside.rings.nodes c.self.inside.rings.heads c.in_ok-slot.slot
first c = c.self.invariant.apart.slots (suc c.args.queue) c.in_ok-slot.slot (front_in (rings.queue_at c.self.inside.rings.queues c.args.queue) c.in_ok-slot.slot (sym c.front.ensures ∙ c.in_ok-slot.was))

pub leave-requires : goal.leave-requires
leave-requires c = first (goal.at.leave-requires c).In_ok-slot

pub overflow_cast-result : goal.overflow_cast-result
overflow_cast-result c = record { fits = omega (arith, c.self.invariant.slots.all c.in_ok-slot.slot (first (goal.at.overflow_cast-result c).In_ok-slot), c.self.ranges) }

pub returns-clause-actor : goal.returns-clause-actor
returns-clause-actor c = rw (← c.self.view_is) (c.self.invariant.slots.all c.in_ok-slot.slot (first (goal.at.returns-clause-actor c).In_ok-slot))

pub returns-clause-shortened : goal.returns-clause-shortened
returns-clause-shortened c =
    let inside = c.self.inside in
    let within : c.args.queue < length (waiting_in inside.rings.queues) = rw (← c.self.view_is) at c.requires in
    rw (← c.self.view_is)
    (ap (λ queues. record { actors = inside.actors; queues = queues })
    (ap (λ (r : Rings). waiting_in r.queues) c.leave.ensures.left ∙ shortened_is inside.rings c.args.queue c.in_ok-slot.slot c.self.invariant.apart (omega (arith, within, length-map inside.rings.queues (map actor_of))) (sym c.front.ensures ∙ c.in_ok-slot.was)))
