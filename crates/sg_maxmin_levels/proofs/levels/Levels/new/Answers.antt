use Rattle.std.proofs.Common.{◌≡◌, true, true≢false, [], sym, ap, subst, ◌∙◌, slice_index, arith}
use Rattle.sg_base.specs.MarkSet.{MarkSet, is_in}
use Rattle.sg_maxmin_levels.proofs.Between.{fresh}
use Rattle.sg_maxmin_levels.proofs.levels.Levels.new.Goals as goal

pub returns-clause-fresh : goal.returns-clause-fresh
returns-clause-fresh c =
    let inv = c.loop-resource.invariant in
    let end = c.loop-resource.auto._resource-end in
    fresh _ c.args.resources (omega (arith, inv.holds_len, c.loop-resource-test.false, end)) (omega (arith, inv.demands_len, c.loop-resource-test.false, end)) (omega (arith, inv.counts_len, c.loop-resource-test.false, end)) (omega (arith, c.in_ok-reserve.ensures.room, c.new-active.ensures.room)) inv.holds inv.demands
    (λ i. ap (λ xs. slice_index xs i) c.new-2.ensures.items) inv.counts c.new-4.ensures.members

pub returns-clause-nothing : goal.returns-clause-nothing
returns-clause-nothing c = λ p q.
    let none : c.reserve.new.self.members ≡ [] = ap (λ (m : MarkSet). m.members) c.reserve.ensures.kept ∙ c.new-active.ensures.members in
    record {
      active = λ r on. absurd (true≢false (sym (subst (λ xs. is_in r xs ≡ true) none on)));
      moved = λ id i. absurd (true≢false (sym (subst (λ xs. is_in id xs ≡ true) c.new-3.ensures.members i)));
      stale = λ id i. absurd (true≢false (sym (subst (λ xs. is_in id xs ≡ true) c.new-4.ensures.members i)));
    }
