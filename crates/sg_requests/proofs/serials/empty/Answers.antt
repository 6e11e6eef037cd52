use Rattle.std.proofs.Common.{◌∷◌, ◌++◌, [], length, map, set, sym, ap, ◌∙◌, arith, append_assoc, append-nil}
use Rattle.sg_queues.specs.Queues.{value, values_of}
use Rattle.sg_queues.specs.Rings.{behind, queue_at}
use Rattle.sg_queues.proofs.Values.{shortened_values, values_at}
use Rattle.sg_requests.specs.Requested.{serial_of}
use Rattle.sg_requests.proofs.Emptied.{none_left, taken_is}
use Rattle.sg_requests.proofs.serials.empty.Goals as goal

pub push_reserved-requires : goal.push_reserved-requires
push_reserved-requires c =
    let inv = c.loop-request.invariant in
    let step = taken_is c.loop-request.queues.queues c.pop_front.new.self.queues c.args.queue c.in-Some.request (omega (arith, c.requires.queue, inv.long)) (sym c.in-Some.is ∙ c.pop_front.ensures.first) c.pop_front.ensures.rest in
    omega (arith, c.requires.room, inv.len, inv.capacity, step.fewer)

pub loop-request-preserved : goal.loop-request-preserved
loop-request-preserved c =
    let inv = c.loop-request.invariant in
    let old = c.loop-request.queues.queues in
    let new = c.pop_front.new.self.queues in
    let queue = c.args.queue in
    let request = c.in-Some.request in
    let step = taken_is old new queue request (omega (arith, c.requires.queue, inv.long)) (sym c.in-Some.is ∙ c.pop_front.ensures.first) c.pop_front.ensures.rest in
    let left = map serial_of (queue_at (values_of new) queue) in
    record {
      items =
          ap (λ l. l ++ left) c.push_reserved.ensures.items
          ∙ append_assoc c.loop-request.serials.items (serial_of request ∷ []) left
          ∙ ap (λ q. c.loop-request.serials.items ++ map serial_of q) (sym step.first)
          ∙ inv.items;
      rest = step.rest ∙ inv.rest;
      long = step.long ∙ inv.long;
      slots = omega (arith, inv.slots, c.pop_front.ensures.room);
      capacity = omega (arith, inv.capacity, c.push_reserved.ensures.capacity);
      len = omega (arith, inv.len, step.fewer, c.push_reserved.ensures.len);
    }

pub loop-request-smaller : goal.loop-request-smaller
loop-request-smaller c =
    let inv = c.loop-request.invariant in
    let step = taken_is c.loop-request.queues.queues c.pop_front.new.self.queues c.args.queue c.in-Some.request (omega (arith, c.requires.queue, inv.long)) (sym c.in-Some.is ∙ c.pop_front.ensures.first) c.pop_front.ensures.rest in
    omega (arith, step.fewer)

pub returns-clause-queues : goal.returns-clause-queues
returns-clause-queues c =
    let inv = c.loop-request.invariant in
    let queues = c.loop-request.queues.queues in
    let none = none_left (queue_at queues c.args.queue) c.in_default.ensures.first in
    ap values_of c.in_default.ensures.rest
    ∙ shortened_values queues c.args.queue
    ∙ ap (λ q. set (values_of queues) c.args.queue (behind q)) (values_at queues c.args.queue ∙ ap (map value) none)
    ∙ inv.rest

pub returns-clause-items : goal.returns-clause-items
returns-clause-items c =
    let queues = c.loop-request.queues.queues in
    let none = none_left (queue_at queues c.args.queue) c.in_default.ensures.first in
    sym (append-nil c.loop-request.serials.items)
    ∙ ap (λ q. c.loop-request.serials.items ++ map serial_of q) (sym (values_at queues c.args.queue ∙ ap (map value) none))
    ∙ c.loop-request.invariant.items

pub returns-clause-len : goal.returns-clause-len
returns-clause-len c =
    let none = none_left (queue_at c.loop-request.queues.queues c.args.queue) c.in_default.ensures.first in
    omega (arith, c.loop-request.invariant.len, ap length none)
