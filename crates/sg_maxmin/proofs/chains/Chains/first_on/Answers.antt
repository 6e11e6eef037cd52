use Rattle.std.proofs.Common.{◌≡◌, ◌<◌, ◌≤◌, None, length, map, get_or, replicate, sym, ap, subst, ◌∙◌, arith}
use Rattle.std.proofs.lemmas.List.{get_or_default, length-map}
use Rattle.sg_maxmin.specs.Walk.{Leads, next_on, resource_of, user_of}
use Rattle.sg_maxmin.specs.Chained.{users_on}
use Rattle.sg_maxmin.specs.kept.Linked.{uses_of, walked}
use Rattle.sg_maxmin.proofs.LinkLemmas.{users_lead, users_stand}
use Rattle.sg_maxmin.proofs.chains.Chains.first_on.Goals as goal

pub returns-clause-leads : goal.returns-clause-leads
returns-clause-leads c =
    let on = c.self.inside.on.items in
    let slots = c.self.inside.slots.slots in
    let within : c.args.resource < length on = omega (arith, c.requires, ap (λ s. length s.users) c.self.view_is, length-map on (walked (length slots) slots)) in
    let is : c.index.result.now ≡ get_or on c.args.resource None = c.index.ensures ∙ get_or_default on c.args.resource c.index.result.now None within in
    subst (λ s. Leads next_on user_of s.uses c.index.result.now (users_on s.users c.args.resource)) c.self.view_is
    (subst (λ o. Leads next_on user_of (uses_of slots) o (users_on (map (walked (length slots) slots) on) c.args.resource)) (sym is) (users_lead slots on c.args.resource c.self.invariant.lists within).0)

pub returns-clause-here : goal.returns-clause-here
returns-clause-here c =
    let on = c.self.inside.on.items in
    let slots = c.self.inside.slots.slots in
    let within : c.args.resource < length on = omega (arith, c.requires, ap (λ s. length s.users) c.self.view_is, length-map on (walked (length slots) slots)) in
    let is : c.index.result.now ≡ get_or on c.args.resource None = c.index.ensures ∙ get_or_default on c.args.resource c.index.result.now None within in
    subst (λ s. Leads next_on resource_of s.uses c.index.result.now (replicate (length (users_on s.users c.args.resource)) c.args.resource)) c.self.view_is
    (subst (λ o. Leads next_on resource_of (uses_of slots) o (replicate (length (users_on (map (walked (length slots) slots) on) c.args.resource)) c.args.resource)) (sym is) (users_stand slots on c.args.resource c.self.invariant.lists within))

pub returns-clause-few : goal.returns-clause-few
returns-clause-few c =
    let on = c.self.inside.on.items in
    let slots = c.self.inside.slots.slots in
    let within : c.args.resource < length on = omega (arith, c.requires, ap (λ s. length s.users) c.self.view_is, length-map on (walked (length slots) slots)) in
    subst (λ s. length (users_on s.users c.args.resource) ≤ length s.uses) c.self.view_is (users_lead slots on c.args.resource c.self.invariant.lists within).1
