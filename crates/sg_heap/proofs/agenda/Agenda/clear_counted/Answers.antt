use Rattle.std.proofs.Common.{◌≡◌, ◌≤◌, ◌∙◌, None, length, set, ap, subst, arith}
use Rattle.std.specs.Vec.{with_items}
use Rattle.std.proofs.lemmas.List.{with_items_is}
use Rattle.sg_heap.specs.Agenda.{key_at, with_slots}
use Rattle.sg_heap.specs.kept.Heap.{keys_of}
use Rattle.sg_heap.proofs.Placing.{length-keys}
use Rattle.sg_heap.proofs.Slots.{set_none, set_with}
use Rattle.sg_heap.proofs.agenda.Agenda.clear_counted.Goals as goal

pub returns-then-slot-len-clause-keys : goal.returns-then-slot-len-clause-keys
returns-then-slot-len-clause-keys g c =
    let inside = c.self.inside in
    let slot = c.args.slot in
    let keys = keys_of inside.heap.items inside.place.items inside.count in
    let len = length-keys inside.heap.items inside.place.items inside.count in
    let more = keys_of c.deref_mut.result.now c.deref_mut-then-slot-len.result.now inside.count in
    let more_is : more ≡ keys =
    ap (λ h. keys_of h c.deref_mut-then-slot-len.result.now inside.count) c.deref_mut.ensures.value
    ∙ ap (λ p. keys_of inside.heap.items p inside.count) c.deref_mut-then-slot-len.ensures.value in
    let heap = c.clear_key-self-inside.new.heap in
    let place = c.clear_key-self-inside.new.place in
    let count = c.clear_key-self-inside.result in
    let heap_is = with_items_is inside.heap heap (c.clear_key-self-inside.auto.heap ∙ c.deref_mut.ensures.len) in
    let place_is = with_items_is inside.place place (c.clear_key-self-inside.auto.place ∙ c.deref_mut-then-slot-len.ensures.len) in
    ap (λ h. with_slots inside.slots (keys_of h (with_items inside.place place).items count)) heap_is
    ∙ ap (λ p. with_slots inside.slots (keys_of heap p count)) place_is
    ∙ ap (with_slots inside.slots) c.clear_key-self-inside.ensures.keys
    ∙ set_with inside.slots slot keys more None (omega (arith, len, c.self.invariant.few)) (omega (arith, ap length more_is, len, c.self.invariant.few))
    (omega (arith, ap length more_is, len, c.if-slot-len.true, c.len.ensures, inside.place.ok.0)) (λ i. ap (λ l. key_at l i) more_is)
    ∙ ap (λ l. set l slot None) c.self.view_is

pub returns-else-slot-len-clause-keys : goal.returns-else-slot-len-clause-keys
returns-else-slot-len-clause-keys g c =
    let inside = c.self.inside in
    let keys = keys_of inside.heap.items inside.place.items inside.count in
    let past : length keys ≤ c.args.slot = omega (arith, length-keys inside.heap.items inside.place.items inside.count, c.if-slot-len.false, c.len.ensures, inside.place.ok.0) in
    subst (λ l. l ≡ set l c.args.slot None) c.self.view_is (set_none inside.slots c.args.slot keys past)
