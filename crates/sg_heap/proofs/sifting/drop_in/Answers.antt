use Rattle.std.proofs.Common.{◌+◌, ◌≤◌, length, ◌∙◌, arith}
use Rattle.sg_heap.proofs.Digits.{digits-child, digits-le}
use Rattle.sg_heap.proofs.InHand.{loose_goes}
use Rattle.sg_heap.proofs.Sifts.{loose_rises}
use Rattle.sg_heap.proofs.sifting.drop_in.Goals as goal

pub loop-at-preserved : goal.loop-at-preserved
loop-at-preserved g c =
    let at = c.loop-at.at in
    let to = c.first_child-child.result in
    let out = c.first_child-child.ensures in
    let inv = c.loop-at.invariant in
    let len : c.args.count ≤ length c.loop-at.heap = omega arith in
    let r = loose_goes c.loop-at.heap c.loop-at.place c.args.count at to c.args.entry out.child out.below out.within len inv.placed inv.loose out.first in
    let h = c.put.ensures.heap in
    let p = c.put.ensures.place in
    record {
      in_range = out.within;
      placed = rw (h, p) r.0.placed;
      loose = rw h r.1;
      keys = rw (h, p) (r.0.keys ∙ inv.keys);
      most = omega (arith, inv.most, out.most, digits-child at to out.child out.below);
    }

pub rise-requires-clause-hand : goal.rise-requires-clause-hand
rise-requires-clause-hand g c =
    record {
      below = c.loop-at.invariant.in_range;
      fits = omega (arith, c.requires.hand.fits);
      slot = omega (arith, c.requires.hand.slot);
      placed = c.loop-at.invariant.placed;
    }

pub rise-requires-clause-rises : goal.rise-requires-clause-rises
rise-requires-clause-rises g c = loose_rises _ c.args.count c.loop-at.at (omega arith) c.loop-at.invariant.loose

pub returns : goal.returns
returns g c =
    let out = c.rise.ensures.sifted in
    record {
      sifted = record { order = out.order; placed = out.placed; keys = out.keys ∙ c.loop-at.invariant.keys };
      most = omega (arith, digits-le (c.loop-at.at + 1) c.args.count (omega arith), digits-le c.loop-at.at c.args.count (omega arith));
    }
