use Rattle.std.proofs.Common.{None, length, replicate, sym, subst, ◌∙◌}
use Rattle.sg_maxmin.specs.Walk.{Leads, next_of_flow, user_of}
use Rattle.sg_maxmin.specs.Sharing.{uses_at}
use Rattle.sg_maxmin.proofs.Rows.{IsLed, first_leads, first_none, first_own, none_own}
use Rattle.sg_maxmin.proofs.system.System.first_of.Goals as goal

led : (c : goal.In_ok-row) → IsLed c.args.self.now.uses c.in_ok-row.row.first (uses_at c.args.self.now.slots c.args.flow)
led c =
    subst (λ s. IsLed s.uses c.in_ok-row.row.first (uses_at s.slots c.args.flow)) c.self.view_is
    (first_leads c.self.inside.capacities.items c.self.inside.flows c.self.inside.chains.uses c.args.flow c.in_ok-row.row c.self.invariant.are_rows (sym c.get.ensures ∙ c.in_ok-row.was))

none : (c : goal.After-from_residual) → IsLed c.args.self.now.uses c.from_residual.result (uses_at c.args.self.now.slots c.args.flow)
none c =
    subst (λ o. IsLed c.args.self.now.uses o (uses_at c.args.self.now.slots c.args.flow)) (sym c.from_residual.ensures)
    (subst (λ s. IsLed s.uses None (uses_at s.slots c.args.flow)) c.self.view_is (first_none c.self.inside.flows c.self.inside.chains.uses c.args.flow (sym c.get.ensures ∙ c.in_err-row.was)))

pub returns-clause-leads : goal.returns-clause-leads
returns-clause-leads c = (led c).leads

pub returns-clause-own : goal.returns-clause-own
returns-clause-own c =
    subst (λ s. Leads next_of_flow user_of s.uses c.in_ok-row.row.first (replicate (length (uses_at s.slots c.args.flow)) c.args.flow)) c.self.view_is
    (first_own c.self.inside.capacities.items c.self.inside.flows c.self.inside.chains.uses c.args.flow c.in_ok-row.row c.self.invariant.are_rows (sym c.get.ensures ∙ c.in_ok-row.was))

pub returns-clause-few : goal.returns-clause-few
returns-clause-few c = (led c).few

pub returns-in_err-row-clause-leads : goal.returns-in_err-row-clause-leads
returns-in_err-row-clause-leads c = (none c).leads

pub returns-in_err-row-clause-own : goal.returns-in_err-row-clause-own
returns-in_err-row-clause-own c =
    subst (λ o. Leads next_of_flow user_of c.args.self.now.uses o (replicate (length (uses_at c.args.self.now.slots c.args.flow)) c.args.flow)) (sym c.from_residual.ensures)
    (subst (λ s. Leads next_of_flow user_of s.uses None (replicate (length (uses_at s.slots c.args.flow)) c.args.flow)) c.self.view_is
    (none_own c.self.inside.flows c.self.inside.chains.uses c.args.flow (sym c.get.ensures ∙ c.in_err-row.was)))

pub returns-in_err-row-clause-few : goal.returns-in_err-row-clause-few
returns-in_err-row-clause-few c = (none c).few
