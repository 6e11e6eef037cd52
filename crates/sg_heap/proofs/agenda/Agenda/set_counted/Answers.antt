use Rattle.std.proofs.Common.{◌≡◌, ◌≤◌, ◌<◌, ◌+◌, ◌∙◌, Some, length, set, ap, subst, sym, arith}
use Rattle.std.specs.Vec.{with_items}
use Rattle.std.proofs.lemmas.List.{with_items_is}
use Rattle.sg_heap.specs.Agenda.{key, key_at, with_slots}
use Rattle.sg_heap.specs.kept.Heap.{HasSlots, keys_of}
use Rattle.sg_heap.proofs.Placing.{length-keys}
use Rattle.sg_heap.proofs.Slots.{key_at-with, length-with, reaches, set_with, still_few}
use Rattle.sg_heap.proofs.agenda.Agenda.set_counted.Goals as goal

pub overflow_add-slot : goal.overflow_add-slot
overflow_add-slot g c =
    let inside = c.self.inside in
    let few : length (keys_of inside.heap.items inside.place.items inside.count) ≤ inside.slots = omega (arith, length-keys inside.heap.items inside.place.items inside.count, c.self.invariant.few) in
    let below : c.args.slot < inside.slots = omega (arith, c.requires, ap length c.self.view_is, length-with inside.slots (keys_of inside.heap.items inside.place.items inside.count) few) in
    record { fits = omega (arith, below, c.self.invariant.heap_fits, inside.heap.ok.1, inside.heap.small) }

pub add_slots-requires-clause-heap_room : goal.add_slots-requires-clause-heap_room
add_slots-requires-clause-heap_room g c =
    let inside = c.self.inside in
    let few : length (keys_of inside.heap.items inside.place.items inside.count) ≤ inside.slots = omega (arith, length-keys inside.heap.items inside.place.items inside.count, c.self.invariant.few) in
    omega (arith, c.requires, ap length c.self.view_is, length-with inside.slots (keys_of inside.heap.items inside.place.items inside.count) few, c.self.invariant.heap_fits)

pub add_slots-requires-clause-place_room : goal.add_slots-requires-clause-place_room
add_slots-requires-clause-place_room g c =
    let inside = c.self.inside in
    let few : length (keys_of inside.heap.items inside.place.items inside.count) ≤ inside.slots = omega (arith, length-keys inside.heap.items inside.place.items inside.count, c.self.invariant.few) in
    omega (arith, c.requires, ap length c.self.view_is, length-with inside.slots (keys_of inside.heap.items inside.place.items inside.count) few, c.self.invariant.place_fits)

pub set_key-self-inside-requires-clause-slot : goal.set_key-self-inside-requires-clause-slot
set_key-self-inside-requires-clause-slot g c =
    let inside = c.self.inside in
    let keys = keys_of inside.heap.items inside.place.items inside.count in
    let grown = c.add_slots.ensures.grows.keys inside.count c.self.invariant.agenda in
    omega (arith, ap length c.deref_mut-2.ensures.value, length-keys c.add_slots.new.heap.items c.add_slots.new.place.items inside.count, ap length grown, reaches (c.args.slot + 1) keys)

pub invariant_of-self : goal.invariant_of-self
invariant_of-self g c =
    let inside = c.self.inside in
    let keys = keys_of inside.heap.items inside.place.items inside.count in
    let few : length keys ≤ inside.slots = omega (arith, length-keys inside.heap.items inside.place.items inside.count, c.self.invariant.few) in
    let below : c.args.slot < inside.slots = omega (arith, c.requires, ap length c.self.view_is, length-with inside.slots keys few) in
    let grown = c.add_slots.ensures.grows.keys inside.count c.self.invariant.agenda in
    let heap = c.set_key-self-inside.new.heap in
    let place = c.set_key-self-inside.new.place in
    let heap_len = c.set_key-self-inside.auto.heap ∙ c.deref_mut.ensures.len in
    let place_len = c.set_key-self-inside.auto.place ∙ c.deref_mut-2.ensures.len in
    let kept : HasSlots heap place c.set_key-self-inside.result inside.slots c.add_slots.new.heap.cap c.add_slots.new.place.cap = record {
      agenda = c.set_key-self-inside.ensures.agenda;
      few = omega (arith, place_len, length-keys c.add_slots.new.heap.items c.add_slots.new.place.items inside.count, ap length grown, still_few inside.slots (c.args.slot + 1) keys few (omega (arith, below)));
      heap_fits = omega (arith, c.add_slots.ensures.heap_capacity, c.self.invariant.heap_fits);
      place_fits = omega (arith, c.add_slots.ensures.place_capacity, c.self.invariant.place_fits);
    } in
    subst (λ h. HasSlots h (with_items c.add_slots.new.place place).items c.set_key-self-inside.result inside.slots c.add_slots.new.heap.cap c.add_slots.new.place.cap) (sym (with_items_is c.add_slots.new.heap heap heap_len))
    (subst (λ p. HasSlots heap p c.set_key-self-inside.result inside.slots c.add_slots.new.heap.cap c.add_slots.new.place.cap) (sym (with_items_is c.add_slots.new.place place place_len)) kept)

pub returns-clause-keys : goal.returns-clause-keys
returns-clause-keys g c =
    let inside = c.self.inside in
    let slot = c.args.slot in
    let keys = keys_of inside.heap.items inside.place.items inside.count in
    let few : length keys ≤ inside.slots = omega (arith, length-keys inside.heap.items inside.place.items inside.count, c.self.invariant.few) in
    let below : slot < inside.slots = omega (arith, c.requires, ap length c.self.view_is, length-with inside.slots keys few) in
    let more = keys_of c.deref_mut.result.now c.deref_mut-2.result.now inside.count in
    let more_is : more ≡ with_slots (slot + 1) keys =
    ap (λ h. keys_of h c.deref_mut-2.result.now inside.count) c.deref_mut.ensures.value
    ∙ ap (λ p. keys_of c.add_slots.new.heap.items p inside.count) c.deref_mut-2.ensures.value
    ∙ c.add_slots.ensures.grows.keys inside.count c.self.invariant.agenda in
    let heap = c.set_key-self-inside.new.heap in
    let place = c.set_key-self-inside.new.place in
    let count = c.set_key-self-inside.result in
    let heap_is = with_items_is c.add_slots.new.heap heap (c.set_key-self-inside.auto.heap ∙ c.deref_mut.ensures.len) in
    let place_is = with_items_is c.add_slots.new.place place (c.set_key-self-inside.auto.place ∙ c.deref_mut-2.ensures.len) in
    ap (λ h. with_slots inside.slots (keys_of h (with_items c.add_slots.new.place place).items count)) heap_is
    ∙ ap (λ p. with_slots inside.slots (keys_of heap p count)) place_is
    ∙ ap (with_slots inside.slots) c.set_key-self-inside.ensures.keys
    ∙ set_with inside.slots slot keys more (Some (key c.args.date c.args.serial)) few
    (omega (arith, ap length more_is, still_few inside.slots (slot + 1) keys few (omega (arith, below))))
    (omega (arith, ap length more_is, reaches (slot + 1) keys))
    (λ i. ap (λ l. key_at l i) more_is ∙ key_at-with (slot + 1) keys i)
    ∙ ap (λ l. set l slot (Some (key c.args.date c.args.serial))) c.self.view_is
