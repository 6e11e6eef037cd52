use Rattle.std.proofs.Common.{◌+◌, drop, sym, ap, ◌∙◌, arith}
use Rattle.std.proofs.lemmas.List.{at_drop_all, get_or_default}
use Rattle.sg_activity_table.specs.Slots.{sooner}
use Rattle.sg_activity.specs.Links.{bound_of_link, route_bound}
use Rattle.sg_activity.proofs.Routed.{bound_more, bound_done}
use Rattle.sg_activity.proofs.routes.bound_of.Goals as goal

pub loop-link-preserved : goal.loop-link-preserved
loop-link-preserved c =
    let links = c.args.links.now in
    let route = c.args.route.now in
    let i = c.loop-link.link-index in
    ap (λ b. sooner b (route_bound links (drop (i + 1) route)))
    (c.tighter-bound.ensures ∙ ap (sooner c.loop-link.bound) (c.own_bound.ensures ∙ ap bound_of_link (get_or_default links _ _ _ (c.requires i _ c.loop-link-test.true))))
    ∙ sym (bound_more links c.loop-link.bound route i _ c.loop-link-test.true)
    ∙ c.loop-link.invariant

pub returns : goal.returns
returns c =
    let links = c.args.links.now in
    sym (bound_done links c.loop-link.bound)
    ∙ sym (at_drop_all (λ l. sooner c.loop-link.bound (route_bound links l)) c.args.route.now c.loop-link.link-index (omega (arith, c.loop-link-test.false)))
    ∙ c.loop-link.invariant
