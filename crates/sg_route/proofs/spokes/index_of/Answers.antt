-- One row more is entered.
use Rattle.std.proofs.Common.{◌-◌, arith, ap, get_or}
use Rattle.sg_platform_rows.specs.declared.rows.SpokeRow.{SpokeRow}
use Rattle.sg_route.proofs.IndexLemmas.{children_entered}
use Rattle.sg_route.proofs.spokes.index_of.Goals as goal

pub loop-left-preserved : goal.loop-left-preserved
loop-left-preserved c =
    let at : SpokeRow → SpokeRow = λ d. get_or c.args.rows.now (c.loop-left.left - 1) d in
    record {
      within = omega (arith, c.loop-left.invariant.within);
      index = children_entered c.loop-left.at c.enter.new.at c.loop-left.left c.args.rows.now (at c.index-rows-left.result) (omega (arith, c.loop-left-test.true))
          c.loop-left.invariant.within (ap at c.index-rows-left.is) c.loop-left.invariant.index c.in_ok-enter.ensures;
    }
