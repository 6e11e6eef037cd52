use Rattle.std.proofs.Common.{◌≡◌, true, get_or, below_more, refl, ap, ◌∙◌, subst, arith}
use Rattle.sg_base.specs.MarkSet.{is_in}
use Rattle.sg_maxmin_solve.proofs.Filled.{fills_none, fills_on}
use Rattle.sg_maxmin_solve.proofs.Growing.{stays}
use Rattle.sg_maxmin.proofs.Listed.{at_in, in_at}
use Rattle.sg_maxmin_solve.proofs.by_part.fill_marked.Goals as goal

pub loop-flow-init : goal.loop-flow-init
loop-flow-init g c = record {
  on = fills_none c.args.system.now c.args.component.now c.args.filling.now c.args.steps.now c.requires.filled;
  done = λ i h off. absurd (omega (arith, h));
  least = λ p q along marked t r. (t, r);
}

pub fill_running-requires-clause-flow : goal.fill_running-requires-clause-flow
fill_running-requires-clause-flow g c =
    let k = c.loop-flow.flow-index in
    let below = c.requires.marked.below k c.loop-flow-test.true in
    (omega (arith, below, c.requires.marked.room), below)

pub fill_running-requires-clause-held : goal.fill_running-requires-clause-held
fill_running-requires-clause-held g c = λ off. c.requires.marked.held c.loop-flow.flow-index c.loop-flow-test.true off

pub loop-flow-preserved : goal.loop-flow-preserved
loop-flow-preserved g c =
    let s = c.args.system.now in
    let inv = c.loop-flow.invariant in
    let out = c.fill_running.ensures in
    let items = c.args.marked.now in
    let k = c.loop-flow.flow-index in
    let flow = get_or items k 0 in
    let old = c.loop-flow.component in
    let new = c.fill_running.new.component in
    record {
      on = fills_on s c.args.component.now old new c.loop-flow.filling c.fill_running.new.filling c.args.steps.now c.loop-flow.steps c.fill_running.new.steps inv.on out.on;
      done = below_more _ _ (λ i h off. stays (get_or items i 0) old.touched.members new.touched.members out.on.touched (inv.done i h off)) out.there;
      least = λ p q along marked t r.
          let b = inv.least p q along marked t r in
          out.least p q along (λ off. marked flow (in_at flow items k c.loop-flow-test.true refl) off) b.0 b.1;
    }

pub returns : goal.returns
returns g c = record {
  on = c.loop-flow.invariant.on;
  there = λ id e off.
      let at = at_in id c.args.marked.now e in
      subst (λ n. is_in n c.loop-flow.component.touched.members ≡ true) at.2
      (c.loop-flow.invariant.done at.0 (omega (arith, at.1, c.loop-flow-test.false)) (ap (λ n. is_in n c.args.ended.now.members) at.2 ∙ off));
  least = c.loop-flow.invariant.least;
}
