use Rattle.std.proofs.Common.{◌≡◌, ◌/◌, ◌<◌, inl, inr, true≢false, cond, eqb, None, Some, length, get_or, set, get_or-set_same, get_or-set_other, below_more, sym, ap, subst, ◌∙◌, arith}
use Rattle.std.proofs.lemmas.List.Elements.{All-get_or}
use Rattle.sg_maxmin_solve.specs.Filling.{fixed_at}
use Rattle.sg_maxmin.proofs.Listed.{eq_cases, in_at}
use Rattle.sg_maxmin_solve.proofs.alone.note_alone.Goals as goal

pub loop-c-preserved : goal.loop-c-preserved
loop-c-preserved c =
    let caps = c.args.system.now.capacities in
    let items = c.args.reached.now in
    let weight = c.args.weight in
    let low = c.args.low in
    let inv = c.loop-c.invariant in
    let k = c.loop-c.c-index in
    let n = get_or items k 0 in
    let old = c.loop-c.holds in
    let v = c.hold_at.result in
    let less : k < length items = c.loop-c-test.true in
    let below : n < length old = omega (arith, All-get_or (λ x. x < length caps) items k 0 less c.requires.exist, c.requires.holds, c.loop-c.auto.holds) in
    let is : v ≡ cond (eqb (get_or caps n 0 / weight) low) (Some low) None = c.hold_at.ensures ∙ ap (λ l. cond (eqb l low) (Some low) None) (c.level_of.ensures ∙ ap (λ x. x / weight) c.capacity.ensures) in
    let here : fixed_at (set old n v) n ≡ cond (eqb (get_or caps n 0 / weight) low) (Some low) None = get_or-set_same old n v None below ∙ is in
    record {
      noted = below_more _ _ (λ i h. elim (eq_cases (get_or items i 0) n) [
        | inl e ↦ subst (λ m. fixed_at (set old n v) m ≡ cond (eqb (get_or caps m 0 / weight) low) (Some low) None) (sym e) here
        | inr ne ↦ get_or-set_other old n (get_or items i 0) v None ne ∙ inv.noted i h
      ]) here;
      others = λ x off. get_or-set_other old n x v None (λ q. true≢false (sym (in_at x items k less (sym q)) ∙ off)) ∙ inv.others x off;
    }
