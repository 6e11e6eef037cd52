use Rattle.std.proofs.Common.{◌≡◌, ◌≢◌, ℕ, ◌<◌, All, option_map, None, Some, length, length-set, get_or, get_or-set_same, get_or-set_other, slice_index, sym, ap, ap₂, subst, ◌∙◌, arith}
use Rattle.sg_maxmin.specs.declared.flow_row.FlowRow.{FlowRow}
use Rattle.sg_maxmin.specs.Fill.{Flow, flow}
use Rattle.sg_maxmin.specs.Sharing.{IsFlow, Changes, flow_at}
use Rattle.sg_maxmin.specs.Chain.{IsChain, resources}
use Rattle.sg_maxmin.specs.kept.Uses.{flow_of, flows_of, AreRows}
use Rattle.sg_maxmin.proofs.Rows.{rows_changed, IsNewRow, share_kept, share_none, both_with, flow_at-flows_of, some_row}
use Rattle.sg_maxmin.proofs.system.System.add.Goals as goal

pub add-row-requires-clause-exist : goal.add-row-requires-clause-exist
add-row-requires-clause-exist c =
    let asked = subst (λ s. All (λ r. r < length s.capacities) c.args.uses.now) (sym c.self.view_is) c.requires.flow.exist in
    subst (λ n. All (λ r. r < n) c.args.uses.now) (sym c.self.invariant.users_len) asked

pub add-row-requires-clause-room : goal.add-row-requires-clause-room
add-row-requires-clause-room c = omega (arith, ap (λ s. s.use_room) c.self.view_is, c.requires.use_room)

given : (c : goal.After-replace) → Flow
given c = flow c.args.uses.now c.args.weight c.args.bound

-- the row as it is kept
row : (c : goal.After-replace) → FlowRow
row c = record { first = c.add-row.result; count = c.new-row.result.count; weight = c.new-row.result.weight; bound = c.new-row.result.bound; level = c.new-row.result.level; share = c.new-row.result.share }

changed : (c : goal.After-replace) → get_or c.replace.new.self c.insert-id.result None ≡ Some (row c)
unfolding row
changed c =
    let id = c.insert-id.result in
    let first = c.insert-id.new.self in
    let within : id < length first = omega (arith, ap length c.insert-id.ensures.put, length-set c.self.inside.flows id (Some c.new-row.result), c.insert-id.ensures.in_range) in
    ap (λ xs. get_or xs id None) c.replace.ensures.put ∙ get_or-set_same first id (Some (row c)) None within

others : (c : goal.After-replace) (other : ℕ) → other ≢ c.insert-id.result → get_or c.replace.new.self other None ≡ get_or c.self.inside.flows other None
unfolding row
others c other away =
    let id = c.insert-id.result in
    ap (λ xs. get_or xs other None) c.replace.ensures.put ∙ get_or-set_other c.insert-id.new.self id other (Some (row c)) None away
    ∙ ap (λ xs. get_or xs other None) c.insert-id.ensures.put ∙ get_or-set_other c.self.inside.flows id other (Some c.new-row.result) None away

both : (c : goal.After-replace) → AreRows c.self.inside.capacities.items c.replace.new.self c.add-row.new.self.uses × Changes (flows_of c.self.inside.flows c.self.inside.chains.uses) (flows_of c.replace.new.self c.add-row.new.self.uses) c.insert-id.result (Some (given c))
unfolding flow_of given row
both c =
    let caps = c.self.inside.capacities.items in
    let made = c.add-row.ensures in
    let new = c.new-row.result in
    let is = c.new-row.ensures in
    let first = c.add-row.result in
    let id = c.insert-id.result in
    let uses' = c.add-row.new.self.uses in
    let same : flow_of uses' (row c) ≡ given c = ap (λ n. flow (resources n uses' first) new.weight new.bound) is.count ∙ ap (λ us. flow us new.weight new.bound) made.resources ∙ ap₂ (λ w b. flow c.args.uses.now w b) is.weight is.bound in
    let asked : IsFlow caps (given c) = subst (λ s. IsFlow s.capacities (given c)) (sym c.self.view_is) c.requires.flow in
    let chain : IsChain id new.count uses' first = subst (λ n. IsChain id n uses' first) (sym is.count) made.is in
    let sound : IsNewRow caps uses' id (row c) = record { chain = chain; is_flow = subst (λ w. IsFlow caps w) (sym same) asked; bound_fits = is.fits } in
    let out = rows_changed caps c.self.inside.flows c.replace.new.self c.self.inside.chains.uses uses' id (Some (row c)) c.self.invariant.are_rows
    made.kept (changed c) (others c) (λ r e. subst (λ w. IsNewRow caps uses' id w) (some_row (row c) r e) sound) in
    (out.0, subst (λ w. Changes (flows_of c.self.inside.flows c.self.inside.chains.uses) (flows_of c.replace.new.self uses') id (Some w)) same out.1)

free : (c : goal.After-replace) → flow_at (flows_of c.self.inside.flows c.self.inside.chains.uses) c.insert-id.result ≡ None
free c = flow_at-flows_of c.self.inside.flows c.self.inside.chains.uses c.insert-id.result ∙ ap (option_map (flow_of c.self.inside.chains.uses)) c.insert-id.ensures.free

pub invariant_of-self : goal.invariant_of-self
unfolding given
invariant_of-self c = record {
  are_rows = (both c).0;
  both = both_with (flows_of c.self.inside.flows c.self.inside.chains.uses) (flows_of c.replace.new.self c.add-row.new.self.uses) c.self.inside.chains.users c.add-row.new.self.users c.insert-id.result (given c)
      c.self.invariant.both (free c) (both c).1 c.add-row.ensures.users;
  users_len = c.add-row.ensures.len ∙ c.self.invariant.users_len;
  left_len = c.self.invariant.left_len;
  waiting_len = c.self.invariant.waiting_len;
}

pub returns-clause-added : goal.returns-clause-added
unfolding given
returns-clause-added c = subst (λ s. Changes s.slots (flows_of c.replace.new.self c.add-row.new.self.uses) c.insert-id.result (Some (given c))) c.self.view_is (both c).1

pub returns-clause-share : goal.returns-clause-share
unfolding row
returns-clause-share c = share_none c.replace.new.self c.insert-id.result (row c) (changed c) c.new-row.ensures.share

pub returns-clause-shares : goal.returns-clause-shares
returns-clause-shares c = λ other away. share_kept c.self.inside.flows c.replace.new.self other (others c other away) ∙ ap (λ s. slice_index s.shares other) c.self.view_is
