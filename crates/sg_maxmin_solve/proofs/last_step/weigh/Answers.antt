use Rattle.std.proofs.Common.{IsSome, eqb-true, get_or, ap, sum_by, arith}
use Rattle.std.proofs.lemmas.List.Elements.{All-get_or}
use Rattle.sg_maxmin.specs.Sharing.{flow_at}
use Rattle.sg_maxmin.specs.Numbered.{weight_at}
use Rattle.sg_maxmin.proofs.Listed.{part_next, take_all}
use Rattle.sg_maxmin.proofs.Users.{weight_is}
use Rattle.sg_maxmin_solve.proofs.last_step.weigh.Goals as goal

pub loop-flow-preserved : goal.loop-flow-preserved
loop-flow-preserved c =
    let s = c.args.system.now in
    let touched = c.args.touched.now in
    let k = c.loop-flow.flow-index in
    let id = get_or touched k 0 in
    let weight = weight_is s.slots id c.weight-one.result (All-get_or (λ id. IsSome (flow_at s.slots id)) touched k 0 c.loop-flow-test.true c.requires) c.weight-one.ensures in
    omega (arith, c.loop-flow.invariant, weight, part_next (weight_at s.slots) touched k c.loop-flow-test.true)

pub returns : goal.returns
returns c = λ e.
    omega (arith, c.loop-flow.invariant, eqb-true c.loop-flow.rest 0 e, ap (sum_by (weight_at c.args.system.now.slots)) (take_all c.args.touched.now c.loop-flow.flow-index (omega (arith, c.loop-flow-test.false))))
