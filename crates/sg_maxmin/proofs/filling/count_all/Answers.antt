use Rattle.std.proofs.Common.{get_or, None, arith}
use Rattle.sg_maxmin.proofs.Passes.{counted_more, count_more, row_waiting-lt}
use Rattle.sg_maxmin.proofs.Counts.{row_facts}
use Rattle.sg_maxmin.proofs.filling.count_all.Goals as goal

pub loop-id-preserved : goal.loop-id-preserved
loop-id-preserved g c =
    let rows = c.args.flows.now in
    let uses = c.args.uses.now.uses in
    let k = c.loop-id.id in
    let out = c.count_row.ensures in
    record {
      counted = counted_more c.args.capacities.now rows uses c.loop-id.left c.loop-id.waiting c.count_row.new.left c.count_row.new.waiting k c.loop-id.invariant.counted c.count_row.auto.left c.count_row.auto.waiting out.left out.waiting;
      few = λ r. omega (arith, c.loop-id.invariant.few r, out.waiting r, row_waiting-lt uses (get_or rows k None) r (λ row e. (row_facts c.args.capacities.now rows uses k row c.requires.rows e).light));
      looks = omega (arith, out.looks, c.loop-id.invariant.looks, count_more rows k);
    }
