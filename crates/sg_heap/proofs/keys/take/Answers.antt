use Rattle.std.proofs.Common.{◌≡◌, ℕ, ◌+◌, ◌-◌, ◌<◌, None, length, set, List, ap, ◌∙◌, subst, sym, arith}
use Rattle.sg_heap.specs.Agenda.{key_count}
use Rattle.sg_heap.specs.kept.Heap.{entry_at, key_of, keys_of, ArePlaced, IsHeap, IsAgenda}
use Rattle.sg_heap.specs.declared.entry.Entry.{Entry}
use Rattle.sg_heap.proofs.Digits.{digits-le}
use Rattle.sg_heap.proofs.Placing.{length-keys}
use Rattle.sg_heap.proofs.Changes.{taken_last, taken_before, loose_of, shorter, key_count_clear, key_there}
use Rattle.sg_heap.proofs.keys.take.Goals as goal

-- what is left when the entry at a place among the first count loses its key
left : (heap heap' : List Entry) (place place' : List ℕ) (count at : ℕ) → IsAgenda heap place count → at < count → ArePlaced heap' place' → IsHeap heap' (count - 1) → length place' ≡ length place → keys_of heap' place' (count - 1) ≡ set (keys_of heap place count) (entry_at heap at).slot None → IsAgenda heap' place' (count - 1)
left heap heap' place place' count at a h p order len keys =
    let old = keys_of heap place count in
    let la : at < length place = omega (arith, a.within) in
    let e : key_count (set old (entry_at heap at).slot None) + 1 ≡ key_count old = key_count_clear old (entry_at heap at).slot (key_of (entry_at heap at)) (subst (λ n. (entry_at heap at).slot < n) (sym (length-keys heap place count)) (a.placed.slots at la)) (key_there heap place count at a.placed la h) in
    record {
      placed = p;
      order = order;
      within = omega (arith, a.within, len);
      counted = omega (arith, ap key_count keys, e, a.counted);
    }

again : (count : ℕ) → 0 < count → (count - 1) + 1 ≡ count
again count h = omega arith

pub drop_in-requires : goal.drop_in-requires
drop_in-requires g c =
    let heap = c.args.heap.now in
    let place = c.args.place.now in
    let at = c.args.at in
    let last = c.args.count - 1 in
    let a = c.requires.key.agenda in
    let last_in : last < length place = omega (arith, a.within) in
    let taken = taken_before heap place at last a.placed (omega arith) last_in c.if-at-last.true in
    record {
      hand = record {
        below = c.if-at-last.true;
        fits = omega (arith, a.within, a.placed.len, c.put.auto.heap);
        slot = subst (λ n. (entry_at heap last).slot < n) (sym c.put.auto.place) (a.placed.slots last last_in);
        placed = rw (c.put.ensures.heap, c.put.ensures.place) taken.placed;
      };
      loose = rw c.put.ensures.heap (loose_of heap (set (set heap last (entry_at heap at)) at (entry_at heap last)) c.args.count last at a.order (omega arith) c.requires.key.below taken.same);
    }

pub returns-then-at-last-clause-keys : goal.returns-then-at-last-clause-keys
returns-then-at-last-clause-keys g c =
    let t = taken_before c.args.heap.now c.args.place.now c.args.at (c.args.count - 1) c.requires.key.agenda.placed (omega arith) (omega (arith, c.requires.key.agenda.within)) c.if-at-last.true in
    c.drop_in.ensures.sifted.keys ∙ rw (c.put.ensures.heap, c.put.ensures.place) (t.keys ∙ ap (λ n. set (keys_of c.args.heap.now c.args.place.now n) (entry_at c.args.heap.now c.args.at).slot None) (again c.args.count (omega arith)))

pub returns-then-at-last-clause-agenda : goal.returns-then-at-last-clause-agenda
returns-then-at-last-clause-agenda g c = left c.args.heap.now c.drop_in.new.heap c.args.place.now c.drop_in.new.place c.args.count c.args.at c.requires.key.agenda c.requires.key.below c.drop_in.ensures.sifted.placed c.drop_in.ensures.sifted.order (c.drop_in.auto.place ∙ c.put.auto.place) (returns-then-at-last-clause-keys g c)

pub returns-then-at-last-clause-most : goal.returns-then-at-last-clause-most
returns-then-at-last-clause-most g c = omega (arith, digits-le (c.args.count - 1) c.args.count (omega arith))

pub returns-else-at-last-clause-keys : goal.returns-else-at-last-clause-keys
returns-else-at-last-clause-keys g c =
    let t = taken_last c.args.heap.now c.args.place.now c.args.at (c.args.count - 1) c.requires.key.agenda.placed (omega arith) (omega (arith, c.requires.key.agenda.within)) (omega arith) in
    rw (c.put.ensures.heap, c.put.ensures.place) (t.keys ∙ ap (λ n. set (keys_of c.args.heap.now c.args.place.now n) (entry_at c.args.heap.now c.args.at).slot None) (again c.args.count (omega arith)))

pub returns-else-at-last-clause-agenda : goal.returns-else-at-last-clause-agenda
returns-else-at-last-clause-agenda g c =
    let t = taken_last c.args.heap.now c.args.place.now c.args.at (c.args.count - 1) c.requires.key.agenda.placed (omega arith) (omega (arith, c.requires.key.agenda.within)) (omega arith) in
    let at_last : c.args.at ≡ c.args.count - 1 = omega arith in
    let p : ArePlaced c.put.new.heap c.put.new.place = rw (c.put.ensures.heap, c.put.ensures.place) t.placed in
    let order : IsHeap c.put.new.heap (c.args.count - 1) = rw c.put.ensures.heap (shorter c.args.heap.now (set c.args.heap.now (c.args.count - 1) (entry_at c.args.heap.now c.args.at)) c.args.count (c.args.count - 1) c.requires.key.agenda.order (omega arith) (λ i h. t.same i h (λ q. omega (arith, q, h, at_last)))) in
    left c.args.heap.now c.put.new.heap c.args.place.now c.put.new.place c.args.count c.args.at c.requires.key.agenda c.requires.key.below p order c.put.auto.place (returns-else-at-last-clause-keys g c)
