use Rattle.std.proofs.Common.{◌+◌, ◌≤◌, length, refl, sym, subst, ◌∙◌, arith}
use Rattle.sg_heap.specs.kept.Heap.{entry_at, key_of, IsHeap}
use Rattle.sg_heap.proofs.Digits.{digits-child, digits-le}
use Rattle.sg_heap.proofs.Order.{no_later-trans}
use Rattle.sg_heap.proofs.InHand.{sink_stops, sink_goes}
use Rattle.sg_heap.proofs.sifting.sink.Goals as goal

pub returns-then-not-is_before-clause-sifted : goal.returns-then-not-is_before-clause-sifted
returns-then-not-is_before-clause-sifted g c =
    let child = c.first_child-child.result in
    let heap = c.loop-at.heap in
    record {
      order = subst (λ h. IsHeap h c.args.count) (sym c.put.ensures.heap) (sink_stops heap c.args.count c.loop-at.at c.args.entry (omega arith) c.loop-at.invariant.sinks
          (λ i hi hc e. no_later-trans (key_of c.args.entry) (key_of (entry_at heap child)) (key_of (entry_at heap i)) (c.if-not-is_before.ensures.behind refl) (c.first_child-child.ensures.first i hi hc e)));
      placed = rw (c.put.ensures.heap, c.put.ensures.place) c.loop-at.invariant.placed;
      keys = rw (c.put.ensures.heap, c.put.ensures.place) c.loop-at.invariant.keys;
    }

pub returns-then-not-is_before-clause-most : goal.returns-then-not-is_before-clause-most
returns-then-not-is_before-clause-most g c =
    let out = c.first_child-child.ensures in
    omega (arith, digits-child c.loop-at.at c.first_child-child.result out.child out.below, digits-le (c.first_child-child.result + 1) c.args.count (omega arith))

pub loop-at-preserved : goal.loop-at-preserved
loop-at-preserved g c =
    let at = c.loop-at.at in
    let to = c.first_child-child.result in
    let out = c.first_child-child.ensures in
    let inv = c.loop-at.invariant in
    let len : c.args.count ≤ length c.loop-at.heap = omega arith in
    let r = sink_goes c.loop-at.heap c.loop-at.place c.args.count at to c.args.entry out.child out.below out.within len inv.placed inv.sinks (c.if-not-is_before.ensures.before refl) out.first in
    let h = c.put-in-loop-at.ensures.heap in
    let p = c.put-in-loop-at.ensures.place in
    record {
      in_range = out.within;
      placed = rw (h, p) r.0.placed;
      sinks = rw h r.1;
      keys = rw (h, p) (r.0.keys ∙ inv.keys);
      most = omega (arith, inv.most, out.most, c.is_before.ensures.counted, digits-child at to out.child out.below);
    }

pub returns-clause-sifted : goal.returns-clause-sifted
returns-clause-sifted g c =
    record {
      order = subst (λ h. IsHeap h c.args.count) (sym c.put-2.ensures.heap) (sink_stops c.loop-at.heap c.args.count c.loop-at.at c.args.entry (omega arith) c.loop-at.invariant.sinks (λ i hi hc e. absurd (omega (arith, hi, hc, e))));
      placed = rw (c.put-2.ensures.heap, c.put-2.ensures.place) c.loop-at.invariant.placed;
      keys = rw (c.put-2.ensures.heap, c.put-2.ensures.place) c.loop-at.invariant.keys;
    }

pub returns-clause-most : goal.returns-clause-most
returns-clause-most g c = omega (arith, digits-le (c.loop-at.at + 1) c.args.count (omega arith))
