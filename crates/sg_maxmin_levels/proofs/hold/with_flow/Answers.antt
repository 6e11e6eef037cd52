use Rattle.std.proofs.Common.{◌-◌, ◌*◌, ℕ, cond, is_none, sym, ap, ap₂, ◌∙◌, arith}
use Rattle.sg_maxmin.specs.Fill.{bounded, share_at}
use Rattle.sg_maxmin.specs.Fixing.{share_of_fixed}
use Rattle.sg_maxmin.specs.Numbered.{flow_in, weight_at}
use Rattle.sg_maxmin.proofs.Listed.{none_some}
use Rattle.sg_maxmin.proofs.Users.{bound_is, weight_is}
use Rattle.sg_maxmin_levels.proofs.hold.with_flow.Goals as goal

pub returns-in-Some-clause-left : goal.returns-in-Some-clause-left
unfolding share_at
returns-in-Some-clause-left c =
    let slots = c.args.system.now.slots in
    c.less.ensures
    ∙ ap₂ (λ b w. c.args.rest.left - bounded b (w * c.in-Some.fixed)) (bound_is slots c.args.flow c.bound.result c.requires.held c.bound.ensures) (weight_is slots c.args.flow c.weight-weight.result c.requires.held c.weight-weight.ensures)
    ∙ ap (λ o. c.args.rest.left - share_of_fixed (flow_in slots c.args.flow) o) c.in-Some.ensures

pub returns-in-Some-clause-waiting : goal.returns-in-Some-clause-waiting
returns-in-Some-clause-waiting c = omega (arith, ap {B = ℕ} (λ o. cond (is_none o) (weight_at c.args.system.now.slots c.args.flow) 0) c.in-Some.ensures)

pub returns-in-Some-clause-least : goal.returns-in-Some-clause-least
returns-in-Some-clause-least c = λ none. absurd (none_some (sym none ∙ sym c.in-Some.ensures))

pub returns-in-None-clause-left : goal.returns-in-None-clause-left
returns-in-None-clause-left c = omega (arith, ap {B = ℕ} (λ o. share_of_fixed (flow_in c.args.system.now.slots c.args.flow) o) c.in-None.ensures)

pub returns-in-None-clause-waiting : goal.returns-in-None-clause-waiting
returns-in-None-clause-waiting c =
    let slots = c.args.system.now.slots in
    omega (arith, ap {B = ℕ} (λ o. cond (is_none o) (weight_at slots c.args.flow) 0) c.in-None.ensures, weight_is slots c.args.flow c.weight-weight.result c.requires.held c.weight-weight.ensures)
