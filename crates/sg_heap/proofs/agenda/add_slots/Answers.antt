use Rattle.std.proofs.Common.{◌≡◌, ◌+◌, length, refl, sym, ap, subst, ◌∙◌, arith}
use Rattle.sg_heap.specs.declared.entry.Entry.{Entry}
use Rattle.sg_heap.specs.kept.Heap.{GrowsTo, no_serial}
use Rattle.sg_heap.proofs.Whole.{grows_none, grows_same, grows_more}
use Rattle.sg_heap.proofs.agenda.add_slots.Goals as goal

pub loop-slot-init : goal.loop-slot-init
loop-slot-init c =
    let len : c.len-slot.result ≡ length c.args.place.now.items = c.len-slot.ensures ∙ c.args.place.now.ok.0 in
    record {
      heap_len = c.requires.len ∙ sym c.len-slot.ensures;
      place_len = sym c.len-slot.ensures;
      heap_room = c.requires.heap_room;
      place_room = c.requires.place_room;
      heap_capacity = refl;
      place_capacity = refl;
      least = omega (arith, len);
      most = omega (arith, len);
      grows = subst (λ n. GrowsTo n c.args.heap.now.items c.args.place.now.items c.args.heap.now.items c.args.place.now.items) (sym len) (grows_none c.args.heap.now.items c.args.place.now.items);
    }

pub loop-slot-preserved : goal.loop-slot-preserved
loop-slot-preserved c =
    let inv = c.loop-slot.invariant in
    let first = c.push_reserved.ensures in
    let second = c.push_reserved-in-loop-slot.ensures in
    let slot = c.loop-slot.slot in
    let entry : Entry = record { date = 0; serial = no_serial; slot = slot } in
    let old = c.args.place.now.items in
    let len : length c.loop-slot.place.items ≡ slot = sym c.loop-slot.place.ok.0 ∙ inv.place_len in
    record {
      heap_len = first.len ∙ ap (λ n. n + 1) inv.heap_len;
      place_len = second.len ∙ ap (λ n. n + 1) inv.place_len;
      heap_room = omega (arith, first.capacity, inv.heap_room);
      place_room = omega (arith, second.capacity, inv.place_room);
      heap_capacity = first.capacity ∙ inv.heap_capacity;
      place_capacity = second.capacity ∙ inv.place_capacity;
      least = omega (arith, inv.least);
      most = omega (arith, inv.least, c.loop-slot-test.true);
      grows = rw (first.items, second.items) (grows_more c.args.heap.now.items c.loop-slot.heap.items old c.loop-slot.place.items entry slot refl len inv.least inv.grows);
    }

pub returns-clause-grows : goal.returns-clause-grows
returns-clause-grows c =
    let inv = c.loop-slot.invariant in
    grows_same c.args.heap.now.items c.loop-slot.heap.items c.args.place.now.items c.loop-slot.place.items c.loop-slot.slot c.args.slots (omega (arith, inv.least, inv.most, c.loop-slot-test.false)) inv.grows
