use Rattle.std.proofs.Common.{◌+◌, ◌<◌, ◌≤◌, length, ap, ◌∙◌, subst, sym, arith}
use Rattle.sg_heap.specs.Agenda.{key_count}
use Rattle.sg_heap.specs.kept.Heap.{key_of, keys_of}
use Rattle.sg_heap.proofs.Placing.{length-keys}
use Rattle.sg_heap.proofs.Sifts.{rises_new}
use Rattle.sg_heap.proofs.Changes.{added, added_heap, at_slot, key_count_set, no_key_there}
use Rattle.sg_heap.proofs.keys.add.Goals as goal

pub rise-requires-clause-hand : goal.rise-requires-clause-hand
rise-requires-clause-hand g c =
    let a = c.requires.agenda in
    let slot_in : c.args.entry.slot < length c.args.place.now = subst (λ s. s < length c.args.place.now) (sym c.requires.slot) (a.placed.slots c.args.at c.requires.in_range) in
    record {
      below = omega arith;
      fits = omega (arith, c.requires.at, c.requires.in_range, a.placed.len, c.put.auto.heap);
      slot = subst (λ n. c.args.entry.slot < n) (sym c.put.auto.place) slot_in;
      placed = rw (c.put.ensures.heap, c.put.ensures.place) (added c.args.heap.now c.args.place.now c.args.at c.args.entry a.placed c.requires.in_range c.requires.slot c.args.count c.requires.at).placed;
    }

pub rise-requires-clause-rises : goal.rise-requires-clause-rises
rise-requires-clause-rises g c =
    rw c.put.ensures.heap (rises_new c.args.heap.now (added_heap c.args.heap.now c.args.place.now c.args.at c.args.entry c.requires.agenda.placed c.requires.in_range c.requires.slot c.args.count c.requires.at) c.args.count c.requires.agenda.order
    (added c.args.heap.now c.args.place.now c.args.at c.args.entry c.requires.agenda.placed c.requires.in_range c.requires.slot c.args.count c.requires.at).same)

pub returns-clause-keys : goal.returns-clause-keys
returns-clause-keys g c =
    c.rise.ensures.sifted.keys ∙ rw (c.put.ensures.heap, c.put.ensures.place) (added c.args.heap.now c.args.place.now c.args.at c.args.entry c.requires.agenda.placed c.requires.in_range c.requires.slot c.args.count c.requires.at).keys

pub returns-clause-agenda : goal.returns-clause-agenda
returns-clause-agenda g c =
    let old = keys_of c.args.heap.now c.args.place.now c.args.count in
    let a = c.requires.agenda in
    let slot_in : c.args.entry.slot < length c.args.place.now = subst (λ s. s < length c.args.place.now) (sym c.requires.slot) (a.placed.slots c.args.at c.requires.in_range) in
    let stands = at_slot c.args.heap.now c.args.place.now c.args.at c.args.entry a.placed c.requires.in_range c.requires.slot in
    let had = no_key_there c.args.heap.now c.args.place.now c.args.count c.args.entry.slot slot_in (subst (λ k. c.args.count ≤ k) (sym stands) c.requires.at) in
    record {
      placed = c.rise.ensures.sifted.placed;
      order = c.rise.ensures.sifted.order;
      within = omega arith;
      counted = ap key_count (returns-clause-keys g c) ∙ key_count_set old c.args.entry.slot (key_of c.args.entry) (subst (λ n. c.args.entry.slot < n) (sym (length-keys c.args.heap.now c.args.place.now c.args.count)) slot_in) had ∙ ap (λ n. n + 1) a.counted;
    }
