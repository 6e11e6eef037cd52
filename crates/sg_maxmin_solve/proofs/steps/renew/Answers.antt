use Rattle.std.proofs.Common.{◌≡◌, ◌/◌, ℕ, List, true, false, inl, inr, get_or, sym, ap, ap₂, subst, ◌∙◌}
use Rattle.std.specs.Vec.{with_items}
use Rattle.std.proofs.lemmas.List.{with_items_is}
use Rattle.sg_base.specs.MarkSet.{is_in}
use Rattle.sg_maxmin_solve.specs.Dates.{key_where}
use Rattle.sg_maxmin.proofs.Listed.{at_in, bool_cases}
use Rattle.sg_maxmin_solve.proofs.steps.renew.Goals as goal

pub returns-clause-levels : goal.returns-clause-levels
returns-clause-levels c = λ x e.
    let f = c.args.filling.now in
    let levels = c.set_levels.new.levels in
    let kept : (with_items f.levels levels).items ≡ levels = with_items_is f.levels levels (c.set_levels.auto.levels ∙ c.deref_mut.ensures.len) in
    let at = at_in x c.members.result.now (subst (λ xs. is_in x xs ≡ true) (sym c.members.ensures.members) e) in
    let n = get_or c.members.result.now at.0 0 in
    subst (λ n. get_or (with_items f.levels levels).items n 0 ≡ get_or f.left.items n 0 / get_or f.waiting.items n 0) at.2
    (ap (λ xs. get_or xs n 0) kept ∙ c.set_levels.ensures.listed at.0 at.1 ∙ ap (λ (xs : List ℕ). get_or xs n 0 / get_or c.deref-2.result.now n 0) c.deref.ensures.value ∙ ap (λ (xs : List ℕ). get_or f.left.items n 0 / get_or xs n 0) c.deref-2.ensures.value)

pub returns-clause-others : goal.returns-clause-others
returns-clause-others c = λ x off.
    let f = c.args.filling.now in
    let levels = c.set_levels.new.levels in
    let kept : (with_items f.levels levels).items ≡ levels = with_items_is f.levels levels (c.set_levels.auto.levels ∙ c.deref_mut.ensures.len) in
    ap (λ xs. get_or xs x 0) kept ∙ c.set_levels.ensures.others x (subst (λ xs. is_in x xs ≡ false) (sym c.members.ensures.members) off) ∙ ap (λ xs. get_or xs x 0) c.deref_mut.ensures.value

pub returns-clause-dated : goal.returns-clause-dated
returns-clause-dated c = elim (bool_cases c.has_keys.result) [
  | inl e ↦ inl (
    c.has_keys.ensures.some e,
    record {
      listed_are = λ x i. c.date_all.ensures.listed e x (subst (λ xs. is_in x xs ≡ true) (sym c.members-2.ensures.members) i)
          ∙ ap₂ (λ (w l : List ℕ). key_where (get_or w x 0) (get_or l x 0)) c.deref-3.ensures.value c.deref-4.ensures.value;
      others = λ x o. c.date_all.ensures.others x (subst (λ xs. is_in x xs ≡ false) (sym c.members-2.ensures.members) o);
    },
  )
  | inr e ↦ inr (c.has_keys.ensures.none e, c.date_all.ensures.none e)
]
