use Rattle.std.proofs.Common.{◌≡◌, ◌+◌, inl, inr, true, cond, None, IsSome, length, length-take, get_or, take, ap, ◌∙◌, subst, sym, arith}
use Rattle.sg_base.specs.MarkSet.{is_in}
use Rattle.sg_maxmin.specs.Sharing.{flow_at, uses_at, uses_in}
use Rattle.sg_lazy.proofs.Leveled.{notes_on}
use Rattle.sg_lazy.proofs.Taking.{in_take_self, in_take_other, not_before}
use Rattle.sg_maxmin.proofs.Listed.{eq_cases, part_next}
use Rattle.sg_lazy.proofs.settle.end_all.Goals as goal

pub end-requires : goal.end-requires
end-requires g c =
    let s = c.args.system.now in
    let k = c.loop-flow.flow-index in
    let flow = get_or c.args.ended.now k 0 in
    record {
      between = c.loop-flow.invariant.between;
      held = subst IsSome (sym (c.loop-flow.invariant.without.slots flow ∙ ap (λ b. cond b None (flow_at s.slots flow)) (not_before c.args.ended.now k c.loop-flow-test.true c.requires.once))) (c.requires.there k c.loop-flow-test.true);
    }

pub loop-flow-preserved : goal.loop-flow-preserved
loop-flow-preserved g c =
    let s = c.args.system.now in
    let t = c.loop-flow.system in
    let u = c.end.new.system in
    let ended = c.args.ended.now in
    let inv = c.loop-flow.invariant in
    let out = c.end.ensures.ended in
    let k = c.loop-flow.flow-index in
    let flow = get_or ended k 0 in
    let less = c.loop-flow-test.true in
    let is : flow_at t.slots flow ≡ flow_at s.slots flow = inv.without.slots flow ∙ ap (λ b. cond b None (flow_at s.slots flow)) (not_before ended k less c.requires.once) in
    let row : uses_at t.slots flow ≡ uses_at s.slots flow = ap uses_in is in
    record {
      without = record {
        slots = λ id. elim (eq_cases id flow) [
          | inl e ↦ ap (flow_at u.slots) e ∙ out.removed.changed ∙ sym (ap (λ n. cond (is_in n (take (k + 1) ended)) None (flow_at s.slots n)) e ∙ ap (λ b. cond b None (flow_at s.slots flow)) (in_take_self ended k less))
          | inr ne ↦ out.removed.others id ne ∙ inv.without.slots id ∙ ap (λ b. cond b None (flow_at s.slots id)) (sym (in_take_other id ended k less ne))
        ];
        slots_len = out.numbers ∙ inv.without.slots_len;
        capacities = out.capacities ∙ inv.without.capacities;
        flow_room = omega (arith, out.flow_room, inv.without.flow_room, length-take (k + 1) ended, length-take k ended, less);
        use_room = omega (arith, out.use_room, inv.without.use_room, ap length row, part_next (λ n. length (uses_at s.slots n)) ended k less);
      };
      between = c.end.ensures.keeps.between;
      changed = notes_on s t u c.args.levels.now c.loop-flow.levels c.end.new.self inv.changed c.end.ensures.keeps.changed;
      within = λ p q pass w. c.end.ensures.keeps.joins p q (λ r i. pass k less r (subst (λ xs. is_in r xs ≡ true) row i)) (inv.within p q pass w);
      looks = omega (arith, inv.looks, c.end.ensures.looks, ap length row, part_next (λ n. length (uses_at s.slots n)) ended k less);
    }
