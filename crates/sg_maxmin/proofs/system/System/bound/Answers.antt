use Rattle.std.proofs.Common.{◌≡◌, Some, IfSome, refl, sym, subst, ◌∙◌}
use Rattle.sg_maxmin.specs.Sharing.{flow_at}
use Rattle.sg_maxmin.specs.kept.Uses.{flow_of}
use Rattle.sg_maxmin.proofs.Rows.{flow_held}
use Rattle.sg_maxmin.proofs.system.System.bound.Goals as goal

pub returns : goal.returns
unfolding flow_of
returns c =
    let row = c.in_ok-get.field-0 in
    let uses = c.self.inside.chains.uses in
    let is : flow_at c.args.self.now.slots c.args.flow ≡ Some (flow_of uses row) =
    subst (λ s. flow_at s.slots c.args.flow ≡ Some (flow_of uses row)) c.self.view_is (flow_held c.self.inside.flows uses c.args.flow row (sym c.get.ensures ∙ c.in_ok-get.was)) in
    subst (λ o. IfSome o (λ held. row.bound ≡ held.bound)) (sym is) refl
