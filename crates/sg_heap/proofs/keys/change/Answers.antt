use Rattle.std.proofs.Common.{◌<◌, None, slice_index_or, length, set, ap, ◌∙◌, subst, sym, arith}
use Rattle.std.proofs.Common.{get_or-set_other}
use Rattle.sg_heap.specs.Agenda.{key_count}
use Rattle.sg_heap.specs.kept.Heap.{no_entry, entry_at, key_of, keys_of}
use Rattle.sg_heap.proofs.Placing.{length-keys}
use Rattle.sg_heap.proofs.Changes.{loose_of, placed_changed, keys_changed, key_count_reset, key_there}
use Rattle.sg_heap.proofs.keys.change.Goals as goal

pub sift-requires : goal.sift-requires
sift-requires g c =
    let a = c.requires.key.agenda in
    let la : c.args.at < length c.args.place.now = omega (arith, a.within) in
    record {
      hand = record {
        below = c.requires.key.below;
        fits = omega (arith, a.within, a.placed.len);
        slot = subst (λ s. s < length c.args.place.now) (sym c.requires.slot) (a.placed.slots c.args.at la);
        placed = placed_changed c.args.heap.now c.args.place.now c.args.at c.args.entry a.placed la c.requires.slot;
      };
      loose = loose_of c.args.heap.now (set c.args.heap.now c.args.at c.args.entry) c.args.count c.args.count c.args.at a.order (omega arith) c.requires.key.below
          (λ i h ne. get_or-set_other c.args.heap.now c.args.at i c.args.entry no_entry ne);
    }

pub returns-clause-keys : goal.returns-clause-keys
returns-clause-keys g c = c.sift.ensures.sifted.keys ∙ keys_changed c.args.heap.now c.args.place.now c.args.at c.args.entry c.requires.key.agenda.placed (omega (arith, c.requires.key.agenda.within)) c.requires.slot c.args.count c.requires.key.below

pub returns-clause-agenda : goal.returns-clause-agenda
returns-clause-agenda g c =
    let old = keys_of c.args.heap.now c.args.place.now c.args.count in
    let a = c.requires.key.agenda in
    let la : c.args.at < length c.args.place.now = omega (arith, a.within) in
    let its = c.requires.slot in
    let had = ap (λ s. slice_index_or old s None) its ∙ key_there c.args.heap.now c.args.place.now c.args.count c.args.at a.placed la c.requires.key.below in
    let slot_in : c.args.entry.slot < length old = subst (λ n. c.args.entry.slot < n) (sym (length-keys c.args.heap.now c.args.place.now c.args.count)) (subst (λ s. s < length c.args.place.now) (sym its) (a.placed.slots c.args.at la)) in
    record {
      placed = c.sift.ensures.sifted.placed;
      order = c.sift.ensures.sifted.order;
      within = omega (arith, a.within);
      counted = ap key_count (returns-clause-keys g c) ∙ key_count_reset old c.args.entry.slot (key_of c.args.entry) (key_of (entry_at c.args.heap.now c.args.at)) slot_in had ∙ a.counted;
    }
