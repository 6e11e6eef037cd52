-- One row more is entered.
use Rattle.std.proofs.Common.{◌-◌, Some, arith, ap, get_or, subst}
use Rattle.std.specs.HashMap.{Updates}
use Rattle.sg_route.specs.declared.locals.Local.{Local}
use Rattle.sg_route.specs.kept.Index.{pair_key_eq}
use Rattle.sg_route.proofs.IndexLemmas.{pairs_entered}
use Rattle.sg_route.proofs.locals.index_of.Goals as goal

pub loop-left-preserved : goal.loop-left-preserved
loop-left-preserved c =
    let at : Local → Local = λ d. get_or c.args.rows.now (c.loop-left.left - 1) d in
    let entered = subst (λ key. Updates pair_key_eq c.loop-left.at c.insert.new.self key (Some (c.loop-left.left - 1))) c.pair_key.ensures c.in_ok-insert.ensures.updates in
    record {
      within = omega (arith, c.loop-left.invariant.within);
      index = pairs_entered c.loop-left.at c.insert.new.self c.loop-left.left c.args.rows.now (at c.index-rows-left.result) (omega (arith, c.loop-left-test.true))
          c.loop-left.invariant.within (ap at c.index-rows-left.is) c.loop-left.invariant.index entered;
    }
