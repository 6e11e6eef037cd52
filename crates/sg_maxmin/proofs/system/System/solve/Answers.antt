use Rattle.std.proofs.Common.{◌≡◌, ℕ, ◌-◌, ◌<◌, ◌^◌, slice_index, length, map, refl, sym, ap, ap₂, subst, ◌∙◌, arith}
use Rattle.std.proofs.lemmas.List.{with_items_is}
use Rattle.sg_maxmin.specs.Sharing.{held, use_count, AreBothWays}
use Rattle.sg_maxmin.proofs.Proved.{is_fair_lem}
use Rattle.sg_maxmin.specs.kept.Uses.{flows_of, share_in}
use Rattle.sg_maxmin.specs.kept.Numbers.{free_count}
use Rattle.sg_maxmin.specs.kept.Counting.{SameRows, AreRowLevels}
use Rattle.sg_maxmin.proofs.Counts.{rows_same}
use Rattle.sg_maxmin.proofs.FilledRows.{same_flows, same_trans, put_same, put_row_levels, put_row_shares, have_limits, shares_shown, count_is, len_same, sharing_same}
use Rattle.sg_maxmin.proofs.system.System.solve.Goals as goal

pub fill-requires-clause-limits : goal.fill-requires-clause-limits
fill-requires-clause-limits g c = have_limits c.self.inside.capacities.items c.self.inside.flows c.self.inside.chains.uses c.self.invariant.are_rows

pub invariant_of-self : goal.invariant_of-self
invariant_of-self g c =
    let old = c.self.inside.flows in
    let new = c.put_shares.new.flows in
    let same = same_trans old c.fill.new.flows new c.fill.ensures.same (put_same c.fill.new.flows new c.put_shares.ensures.all) in
    record {
      are_rows = rows_same c.self.inside.capacities.items c.self.inside.chains.uses old new same c.self.invariant.are_rows;
      left_len = ap length (with_items_is c.self.inside.left c.fill.new.left (c.fill.auto.left ∙ c.deref_mut.ensures.len)) ∙ c.fill.auto.left ∙ ap length c.deref_mut.ensures.value ∙ c.self.invariant.left_len;
      waiting_len = ap length (with_items_is c.self.inside.waiting c.fill.new.waiting (c.fill.auto.waiting ∙ c.deref_mut-2.ensures.len)) ∙ c.fill.auto.waiting ∙ ap length c.deref_mut-2.ensures.value ∙ c.self.invariant.waiting_len;
      both = subst (λ slots. AreBothWays slots c.self.inside.chains.users) (sym (same_flows c.self.inside.chains.uses old new same (c.put_shares.ensures.len ∙ c.fill.ensures.len))) c.self.invariant.both;
      users_len = c.self.invariant.users_len;
    }

pub returns-clause-shares : goal.returns-clause-shares
returns-clause-shares g c =
    let caps = c.self.inside.capacities.items in
    let uses = c.self.inside.chains.uses in
    let old = c.self.inside.flows in
    let new = c.put_shares.new.flows in
    let put = c.put_shares.ensures in
    let same = same_trans old c.fill.new.flows new c.fill.ensures.same (put_same c.fill.new.flows new put.all) in
    let levels : AreRowLevels caps uses c.fill.new.flows = subst (λ caps. AreRowLevels caps uses c.fill.new.flows) c.deref.ensures.value c.fill.ensures.levels in
    shares_shown caps new uses (rows_same caps uses old new same c.self.invariant.are_rows)
    (subst (λ caps. (r : ℕ) → slice_index caps r < 2 ^ 64) c.deref.ensures.value c.fill.ensures.fit)
    (put_row_levels caps uses c.fill.new.flows new put.all put.len levels) (put_row_shares c.fill.new.flows new put.all)

pub returns-clause-kept : goal.returns-clause-kept
returns-clause-kept g c =
    let old = c.self.inside.flows in
    let new = c.put_shares.new.flows in
    let chains = c.self.inside.chains in
    let same : SameRows old new = same_trans old c.fill.new.flows new c.fill.ensures.same (put_same c.fill.new.flows new c.put_shares.ensures.all) in
    let len : length new ≡ length old = c.put_shares.ensures.len ∙ c.fill.ensures.len in
    let flows : flows_of new chains.uses ≡ c.args.self.now.slots = same_flows chains.uses old new same len ∙ ap (λ s. s.slots) c.self.view_is in
    let room : free_count new ≡ c.args.self.now.flow_room = ap₂ (λ a b. a - b) len (len_same old new same len) ∙ ap (λ s. s.flow_room) c.self.view_is in
    sharing_same c.self.inside.capacities.items c.args.self.now.capacities (flows_of new chains.uses) c.args.self.now.slots (map share_in new) (map share_in new) chains.uses c.args.self.now.uses chains.users c.args.self.now.users
    (free_count new) c.args.self.now.flow_room chains.room c.args.self.now.use_room
    (ap (λ s. s.capacities) c.self.view_is) flows refl (ap (λ s. s.uses) c.self.view_is) (ap (λ s. s.users) c.self.view_is) room (ap (λ s. s.use_room) c.self.view_is)

pub returns-clause-looks : goal.returns-clause-looks
returns-clause-looks g c =
    let count = count_is c.self.inside.capacities.items c.self.inside.flows c.self.inside.chains.uses c.self.invariant.are_rows in
    omega (arith, c.fill.ensures.looks, count, ap (λ s. use_count s) c.self.view_is)

pub returns-clause-fair : goal.returns-clause-fair
returns-clause-fair g c =
    let caps = c.self.inside.capacities.items in
    let rows = c.put_shares.new.flows in
    let uses = c.self.inside.chains.uses in
    let same = same_trans c.self.inside.flows c.fill.new.flows rows c.fill.ensures.same (put_same c.fill.new.flows rows c.put_shares.ensures.all) in
    is_fair_lem caps (held (flows_of rows uses)) (have_limits caps rows uses (rows_same caps uses c.self.inside.flows rows same c.self.invariant.are_rows))
