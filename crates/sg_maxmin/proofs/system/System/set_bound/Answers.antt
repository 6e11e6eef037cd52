use Rattle.std.proofs.Common.{◌≡◌, ◌-◌, None, Some, get_or, map, length, length-set, slice_set, sym, ap, ap₂, subst, ◌∙◌}
use Rattle.sg_maxmin.specs.Sharing.{flow_at}
use Rattle.sg_maxmin.specs.kept.Uses.{flow_of, flows_of, share_in, IsKept}
use Rattle.sg_maxmin.specs.kept.Numbers.{free_count}
use Rattle.sg_maxmin.proofs.Rows.{with_bound, kept_bound, flow_held, flows_bound, shares_bound}
use Rattle.sg_maxmin.proofs.FilledRows.{sharing_same}
use Rattle.sg_maxmin.proofs.system.System.set_bound.Goals as goal

pub invariant_of-self : goal.invariant_of-self
invariant_of-self c =
    let caps = c.self.inside.capacities.items in
    let chains = c.self.inside.chains in
    let left = c.self.inside.left.items in
    let waiting = c.self.inside.waiting.items in
    subst (λ rows. IsKept caps rows chains left waiting) (sym c.replace.ensures.put)
    (kept_bound caps c.self.inside.flows chains left waiting c.args.flow c.args.bound c.in-Some.row c.self.invariant (sym c.get.ensures ∙ c.in-Some.is) c.ranges.bound.fits)

pub returns-in-Some : goal.returns-in-Some
returns-in-Some c =
    let id = c.args.flow in
    let bound = c.args.bound in
    let row = c.in-Some.row in
    let rows = c.self.inside.flows in
    let chains = c.self.inside.chains in
    let now = c.args.self.now in
    let new = c.replace.new.self in
    let put : new ≡ slice_set rows id (Some (with_bound bound row)) = c.replace.ensures.put in
    let there : get_or rows id None ≡ Some row = sym c.get.ensures ∙ c.in-Some.is in
    let held : flow_at now.slots id ≡ Some (flow_of chains.uses row) = subst (λ s. flow_at s.slots id ≡ Some (flow_of chains.uses row)) c.self.view_is (flow_held rows chains.uses id row there) in
    let after = record (flow_of chains.uses row) { bound = Some bound } in
    let slots : flows_of new chains.uses ≡ slice_set now.slots id (Some after) = ap (λ rs. flows_of rs chains.uses) put ∙ flows_bound rows chains.uses id bound row ∙ ap (λ s. slice_set s.slots id (Some after)) c.self.view_is in
    let shares : map share_in new ≡ now.shares = ap (λ rs. map share_in rs) put ∙ shares_bound rows id bound row there ∙ ap (λ s. s.shares) c.self.view_is in
    let room : free_count new ≡ now.flow_room = ap₂ (λ a b. a - b) (ap (λ rs. length rs) put ∙ length-set rows id (Some (with_bound bound row))) c.replace.ensures.count ∙ ap (λ s. s.flow_room) c.self.view_is in
    rw held (sharing_same c.self.inside.capacities.items now.capacities (flows_of new chains.uses) (slice_set now.slots id (Some after)) (map share_in new) now.shares chains.uses now.uses chains.users now.users (free_count new) now.flow_room chains.room now.use_room
    (ap (λ s. s.capacities) c.self.view_is) slots shares (ap (λ s. s.uses) c.self.view_is) (ap (λ s. s.users) c.self.view_is) room (ap (λ s. s.use_room) c.self.view_is))
