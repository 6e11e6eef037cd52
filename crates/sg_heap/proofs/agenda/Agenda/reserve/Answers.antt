use Rattle.std.proofs.Common.{◌≤◌, length, ap, arith}
use Rattle.sg_heap.specs.kept.Heap.{keys_of}
use Rattle.sg_heap.proofs.Placing.{length-keys}
use Rattle.sg_heap.proofs.Slots.{length-with, with_fewer, with_more}
use Rattle.sg_heap.proofs.agenda.Agenda.reserve.Goals as goal

pub returns-then-slots-self-clause-room : goal.returns-then-slots-self-clause-room
returns-then-slots-self-clause-room c =
    let inside = c.self.inside in
    let keys = keys_of inside.heap.items inside.place.items inside.count in
    let few : length keys ≤ inside.slots = omega (arith, length-keys inside.heap.items inside.place.items inside.count, c.self.invariant.few) in
    rw (← c.self.view_is) (with_fewer inside.slots c.args.slots keys few c.if-slots-self.true)

pub returns-clause-room : goal.returns-clause-room
returns-clause-room c =
    let inside = c.self.inside in
    let keys = keys_of inside.heap.items inside.place.items inside.count in
    let few : length keys ≤ inside.slots = omega (arith, length-keys inside.heap.items inside.place.items inside.count, c.self.invariant.few) in
    rw (← c.self.view_is, c.reserve.ensures.items, c.reserve-2.ensures.items) (with_more inside.slots c.args.slots keys few (omega (arith, c.if-slots-self.false)))

pub returns-in_err-reserve-clause-enough : goal.returns-in_err-reserve-clause-enough
returns-in_err-reserve-clause-enough c = λ enough.
    let inside = c.self.inside in
    let few : length (keys_of inside.heap.items inside.place.items inside.count) ≤ inside.slots = omega (arith, length-keys inside.heap.items inside.place.items inside.count, c.self.invariant.few) in
    absurd (omega (arith, enough, ap length c.self.view_is, length-with inside.slots (keys_of inside.heap.items inside.place.items inside.count) few, c.if-slots-self.false))

pub returns-in_err-reserve-2-clause-enough : goal.returns-in_err-reserve-2-clause-enough
returns-in_err-reserve-2-clause-enough c = λ enough.
    let inside = c.self.inside in
    let few : length (keys_of inside.heap.items inside.place.items inside.count) ≤ inside.slots = omega (arith, length-keys inside.heap.items inside.place.items inside.count, c.self.invariant.few) in
    absurd (omega (arith, enough, ap length c.self.view_is, length-with inside.slots (keys_of inside.heap.items inside.place.items inside.count) few, c.if-slots-self.false))
