use Rattle.std.proofs.Common.{◌-◌, ◌/◌, ◌≤◌, length, refl, sym, subst, ◌∙◌, arith}
use Rattle.sg_heap.specs.kept.Heap.{IsHeap}
use Rattle.sg_heap.proofs.Digits.{digits-parent}
use Rattle.sg_heap.proofs.InHand.{rise_stops, rise_goes, slot_of}
use Rattle.sg_heap.proofs.sifting.rise.Goals as goal

pub returns-then-not-is_before-clause-sifted : goal.returns-then-not-is_before-clause-sifted
returns-then-not-is_before-clause-sifted g c =
    record {
      order = subst (λ h. IsHeap h c.args.count) (sym c.put.ensures.heap) (rise_stops c.loop-at.heap c.args.count c.loop-at.at c.args.entry (omega arith) c.loop-at.invariant.rises (λ _. c.if-not-is_before.ensures.behind refl));
      placed = rw (c.put.ensures.heap, c.put.ensures.place) c.loop-at.invariant.placed;
      keys = rw (c.put.ensures.heap, c.put.ensures.place) c.loop-at.invariant.keys;
    }

pub returns-then-not-is_before-clause-most : goal.returns-then-not-is_before-clause-most
returns-then-not-is_before-clause-most g c = omega (arith, digits-parent c.loop-at.at c.loop-at-test.true)

pub put-requires-in-loop-at-clause-slot : goal.put-requires-in-loop-at-clause-slot
put-requires-in-loop-at-clause-slot g c =
    slot_of c.loop-at.heap c.loop-at.place c.loop-at.at ((c.loop-at.at - 1) / 2) c.args.entry (λ e. omega (arith, e)) (omega arith) c.loop-at.invariant.placed

pub loop-at-preserved : goal.loop-at-preserved
loop-at-preserved g c =
    let at = c.loop-at.at in
    let to = (at - 1) / 2 in
    let inv = c.loop-at.invariant in
    let len : c.args.count ≤ length c.loop-at.heap = omega arith in
    let r = rise_goes c.loop-at.heap c.loop-at.place c.args.count at to c.args.entry refl c.loop-at-test.true inv.in_range len inv.placed inv.rises (c.if-not-is_before.ensures.before refl) in
    let h = c.put-in-loop-at.ensures.heap in
    let p = c.put-in-loop-at.ensures.place in
    record {
      in_range = omega arith;
      placed = rw (h, p) r.0.placed;
      rises = rw h r.1;
      keys = rw (h, p) (r.0.keys ∙ inv.keys);
      most = omega (arith, inv.most, c.is_before.ensures.counted, digits-parent at c.loop-at-test.true);
    }

pub returns-clause-sifted : goal.returns-clause-sifted
returns-clause-sifted g c =
    record {
      order = subst (λ h. IsHeap h c.args.count) (sym c.put-2.ensures.heap) (rise_stops c.loop-at.heap c.args.count c.loop-at.at c.args.entry (omega arith) c.loop-at.invariant.rises (λ some. absurd (omega (arith, some))));
      placed = rw (c.put-2.ensures.heap, c.put-2.ensures.place) c.loop-at.invariant.placed;
      keys = rw (c.put-2.ensures.heap, c.put-2.ensures.place) c.loop-at.invariant.keys;
    }
