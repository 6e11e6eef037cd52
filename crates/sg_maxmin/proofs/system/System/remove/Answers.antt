use Rattle.std.proofs.Common.{◌≡◌, ◌≢◌, ℕ, None, Some, length, get_or, get_or-set_same, get_or-set_other, slice_index, option_map, ap, subst, ◌∙◌, arith}
use Rattle.sg_maxmin.specs.Sharing.{Changes, flow_at}
use Rattle.sg_maxmin.specs.kept.Uses.{flow_of, flows_of, AreRows}
use Rattle.sg_maxmin.proofs.ChainLemmas.{length-resources}
use Rattle.sg_maxmin.proofs.FreeNumbers.{in_rows}
use Rattle.sg_maxmin.proofs.Rows.{rows_changed, share_kept, flow_at-flows_of, both_without}
use Rattle.sg_maxmin.proofs.system.System.remove.Goals as goal

there : (c : goal.After-remove) → get_or c.self.inside.flows c.args.flow None ≡ Some c.remove-row.result
there c = c.remove-row.ensures.value

changed : (c : goal.After-remove) → get_or c.remove-row.new.self c.args.flow None ≡ None
changed c =
    ap (λ xs. get_or xs c.args.flow None) c.remove-row.ensures.taken
    ∙ get_or-set_same c.self.inside.flows c.args.flow None None (in_rows c.self.inside.flows c.args.flow c.remove-row.result (there c))

others : (c : goal.After-remove) (other : ℕ) → other ≢ c.args.flow → get_or c.remove-row.new.self other None ≡ get_or c.self.inside.flows other None
others c other away = ap (λ xs. get_or xs other None) c.remove-row.ensures.taken ∙ get_or-set_other c.self.inside.flows c.args.flow other None None away

both : (c : goal.After-remove) → AreRows c.self.inside.capacities.items c.remove-row.new.self c.remove.new.self.uses × Changes (flows_of c.self.inside.flows c.self.inside.chains.uses) (flows_of c.remove-row.new.self c.remove.new.self.uses) c.args.flow None
both c =
    rows_changed c.self.inside.capacities.items c.self.inside.flows c.remove-row.new.self c.self.inside.chains.uses c.remove.new.self.uses c.args.flow None c.self.invariant.are_rows
    c.remove.ensures.kept (changed c) (others c) (λ r e. cc e)

pub remove-requires : goal.remove-requires
remove-requires c = c.self.invariant.are_rows.chains c.args.flow c.remove-row.result c.remove-row.ensures.value

pub invariant_of-self : goal.invariant_of-self
unfolding flow_of
invariant_of-self c =
    let row = c.remove-row.result in
    let uses = c.self.inside.chains.uses in
    let is : flow_at (flows_of c.self.inside.flows uses) c.args.flow ≡ Some (flow_of uses row) = flow_at-flows_of c.self.inside.flows uses c.args.flow ∙ ap (option_map (flow_of uses)) (there c) in
    record {
      are_rows = (both c).0;
      both = both_without (flows_of c.self.inside.flows uses) (flows_of c.remove-row.new.self c.remove.new.self.uses) c.self.inside.chains.users c.remove.new.self.users c.args.flow (flow_of uses row)
          c.self.invariant.both is (both c).1 c.remove.ensures.users;
      users_len = c.remove.ensures.len ∙ c.self.invariant.users_len;
      left_len = c.self.invariant.left_len;
      waiting_len = c.self.invariant.waiting_len;
    }

pub returns-clause-removed : goal.returns-clause-removed
returns-clause-removed c = subst (λ s. Changes s.slots (flows_of c.remove-row.new.self c.remove.new.self.uses) c.args.flow None) c.self.view_is (both c).1

pub returns-clause-use_room : goal.returns-clause-use_room
unfolding flow_of
returns-clause-use_room c =
    let row = c.remove-row.result in
    let uses = c.self.inside.chains.uses in
    let is : flow_at (flows_of c.self.inside.flows uses) c.args.flow ≡ Some (flow_of uses row) = flow_at-flows_of c.self.inside.flows uses c.args.flow ∙ ap (option_map (flow_of uses)) (there c) in
    let held : flow_at c.args.self.now.slots c.args.flow ≡ Some (flow_of uses row) = subst (λ s. flow_at s.slots c.args.flow ≡ Some (flow_of uses row)) c.self.view_is is in
    let len : length (flow_of uses row).uses ≡ row.count = length-resources c.args.flow row.count uses row.first (c.self.invariant.are_rows.chains c.args.flow row (there c)) in
    rw held (omega (arith, len, ap (λ s. s.use_room) c.self.view_is, c.remove.ensures.room))

pub returns-clause-shares : goal.returns-clause-shares
returns-clause-shares c = λ other away. share_kept c.self.inside.flows c.remove-row.new.self other (others c other away) ∙ ap (λ s. slice_index s.shares other) c.self.view_is
