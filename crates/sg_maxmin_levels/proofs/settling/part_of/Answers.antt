use Rattle.std.proofs.Common.{◌≡◌, ◌+◌, ◌-◌, ◌*◌, ◌^◌, min, sym, ap, ap₂, ◌∙◌, arith}
use Rattle.sg_maxmin.specs.Fill.{bounded, share_at}
use Rattle.sg_maxmin.specs.Numbered.{flow_in}
use Rattle.sg_maxmin_levels.specs.Demand.{demand_of}
use Rattle.sg_maxmin.proofs.Users.{bound_is, weight_is}
use Rattle.sg_maxmin_levels.proofs.settling.part_of.Goals as goal

pub returns-in-None : goal.returns-in-None
returns-in-None c =
    let most : c.from.result + 1 ≡ 2 ^ 64 = omega (arith, c.from.ensures) in
    most ∙ ap (demand_of (flow_in c.args.system.now.slots c.args.flow)) (sym c.in-None.is)

pub returns-in-Some : goal.returns-in-Some
unfolding share_at
returns-in-Some c =
    let slots = c.args.system.now.slots in
    let l = c.in-Some.level in
    let w = weight_is slots c.args.flow c.weight-weight.result c.requires c.weight-weight.ensures in
    let b = bound_is slots c.args.flow c.bound.result c.requires c.bound.ensures in
    ap₂ (λ a x. a + 2 * x) (c.from-in-Some.ensures ∙ c.share_at.ensures.capped ∙ ap₂ (λ o n. min (bounded o (n * l)) (2 ^ 64 - 1)) b w) (c.from-in-Some-2.ensures ∙ w)
    ∙ ap (demand_of (flow_in slots c.args.flow)) (sym c.in-Some.is)
