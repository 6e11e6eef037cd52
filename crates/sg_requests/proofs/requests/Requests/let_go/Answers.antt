use Rattle.std.proofs.Common.{◌≡◌, ◌<◌, length, map, ap, arith}
use Rattle.std.proofs.lemmas.List.{length-map}
use Rattle.sg_queues.specs.Queues.{value, values_of}
use Rattle.sg_requests.proofs.Emptied.{emptied_total}
use Rattle.sg_requests.specs.Requested.{Requested}
use Rattle.sg_requests.proofs.requests.Requests.let_go.Goals as goal

pub overflow_sub-self-2 : goal.overflow_sub-self-2
overflow_sub-self-2 c =
    let old = c.self.inside.queues.queues in
    let long : length (values_of old) ≡ length c.args.self.now.queues = ap (λ (r : Requested). length r.queues) c.self.view_is in
    let within : c.index.result < length old = omega (arith, c.requires.actor.0, c.requires.actor.1, c.index.ensures, long, length-map old (map value)) in
    let total = emptied_total old c.empty.new.queues.queues c.index.result within c.empty.ensures.queues in
    omega (arith, total, c.self.invariant.counted, c.len.ensures, c.len-others.ensures, c.empty.ensures.len)

pub invariant_of-self : goal.invariant_of-self
invariant_of-self c =
    let old = c.self.inside.queues.queues in
    let long : length (values_of old) ≡ length c.args.self.now.queues = ap (λ (r : Requested). length r.queues) c.self.view_is in
    let within : c.index.result < length old = omega (arith, c.requires.actor.0, c.requires.actor.1, c.index.ensures, long, length-map old (map value)) in
    let total = emptied_total old c.empty.new.queues.queues c.index.result within c.empty.ensures.queues in
    let was = c.self.invariant in
    record {
      slots = omega (arith, was.slots, c.empty.ensures.slots);
      counted = omega (arith, total, was.counted, c.len.ensures, c.len-others.ensures, c.empty.ensures.len);
      few = omega (arith, was.few);
      fits = omega (arith, was.fits, c.begin.ensures.capacity, c.empty.ensures.capacity, c.sort.ensures.capacity);
    }
