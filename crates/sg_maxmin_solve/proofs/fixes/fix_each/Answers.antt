use Rattle.std.proofs.Common.{◌≡◌, ◌<◌, ◌≤◌, ◌⊎◌, ℕ, true≢false, inl, inr, List, Some, length, get_or, below_more, refl, sym, ap, subst, ◌∙◌, arith}
use Rattle.std.proofs.lemmas.List.Elements.{All-get_or}
use Rattle.sg_maxmin.specs.Chained.{users_on}
use Rattle.sg_maxmin_solve.specs.declared.filling.Filling.{Filling}
use Rattle.sg_maxmin_solve.specs.Filling.{fixed_at}
use Rattle.sg_maxmin_solve.specs.Holds.{MayHold, noted_at}
use Rattle.sg_maxmin_solve.proofs.Keyed.{nobody_waits}
use Rattle.sg_maxmin_solve.proofs.Notes.{may_keep, may_on, noted_here, noted_may, noted_other, taken_less}
use Rattle.sg_maxmin_solve.proofs.Rows.{into}
use Rattle.sg_maxmin_solve.proofs.Fixing.{above_still, fixed_stay, partly_on, partly_same}
use Rattle.sg_maxmin.proofs.Listed.{at_in, eq_cases, in_at}
use Rattle.sg_maxmin_solve.proofs.fixes.fix_each.Goals as goal

pub loop-k-init : goal.loop-k-init
loop-k-init g c = record {
  partly = partly_same c.args.system.now c.args.low.level c.args.filling.now c.requires.places;
  on = λ i h e. nobody_waits c.args.system.now c.args.touched.now c.args.reached.now c.args.filling.now c.requires.joined c.requires.counted (get_or c.args.reached.now i 0) (in_at (get_or c.args.reached.now i 0) c.args.reached.now i (within i h) refl) (free i h e);
  others = λ c off. refl;
  may = λ c. inl refl;
  taken = λ i h e w. absurd (omega (arith, w, free i h e));
  rest = λ i from h. refl;
  count = record { counted = λ reached h. h; looks = omega arith };
}
  where
    first : Filling
    first = c.args.filling.now

    within : (i : ℕ) → i < c.args.low.at.first → i < length c.args.reached.now
    within i h = omega (arith, h, c.requires.taken.order, c.requires.taken.few)

    -- nobody waits before the first
    free : (i : ℕ) → i < c.args.low.at.first → get_or first.levels.items (get_or c.args.reached.now i 0) 0 ≡ c.args.low.level → get_or first.waiting.items (get_or c.args.reached.now i 0) 0 ≡ 0
    free i h e = elim (eq_cases (get_or first.waiting.items (get_or c.args.reached.now i 0) 0) 0) [ inl z ↦ z | inr w ↦ absurd (omega (arith, h, (c.requires.taken.among i (within i h) w e).0)) ]

pub fix_on-requires : goal.fix_on-requires
fix_on-requires g c =
    let s = c.args.system.now in
    let reached = c.args.reached.now in
    let n = get_or reached c.loop-k.k 0 in
    let there : c.loop-k.k < length reached = omega (arith, c.loop-k-test.true, c.requires.taken.few) in
    let row = users_on s.users n in
    let partly = c.loop-k.invariant.partly in
    record {
      places = partly.places;
      exists = All-get_or (λ x. x < length s.capacities) reached c.loop-k.k 0 there c.requires.joined.exist;
      above = above_still s c.args.touched.now row c.args.low.level c.args.filling.now c.loop-k.filling partly
          (λ id i. into row c.args.touched.now id (c.requires.joined.closed.covered n (in_at n reached c.loop-k.k there refl)) i) c.requires.above;
    }

pub loop-k-preserved : goal.loop-k-preserved
loop-k-preserved g c =
    let s = c.args.system.now in
    let touched = c.args.touched.now in
    let reached = c.args.reached.now in
    let k = c.loop-k.k in
    let n = get_or reached k 0 in
    let there : k < length reached = omega (arith, c.loop-k-test.true, c.requires.taken.few) in
    let inv = c.loop-k.invariant in
    let out = c.fix_on.ensures in
    let first = c.args.filling.now in
    let old = c.loop-k.filling in
    let new = c.fix_on.new.filling in
    let low = c.args.low.level in
    let below : n < length old.holds.items = omega (arith, All-get_or (λ x. x < length s.capacities) reached k 0 there c.requires.joined.exist, inv.partly.places.holds_len) in
    let level = λ (x : ℕ). ap (λ xs. get_or xs x 0) inv.partly.levels in
    let noted = λ (x : ℕ). ap (λ hs. fixed_at hs x) out.noted in
    let next = λ (x : ℕ). subst (λ o. MayHold low (get_or first.levels.items x 0) (fixed_at old.holds.items x) o) (sym (noted x)) (subst (λ y. MayHold low y (fixed_at old.holds.items x) (fixed_at (noted_at low n old) x)) (level x) (noted_may low n old below x)) in
    let here = in_at n reached k there refl in
    let less = taken_less s reached low n old new below c.requires.joined.distinct here (λ e. inv.rest k (omega arith) there ∙ c.requires.fresh n here (sym (level n) ∙ e)) out.noted in
    let a = inv.count in
    let b = out.count touched c.requires.joined.once (c.requires.joined.closed.covered n (in_at n reached k there refl)) in
    record {
      partly = partly_on s c.args.low.level first old new inv.partly out.partly;
      on = below_more _ _ (λ i h e. fixed_stay s c.args.low.level (users_on s.users (get_or reached i 0)) old new out.partly (inv.on i h e))
          (λ e. out.done (ap (λ xs. get_or xs n 0) inv.partly.levels ∙ e));
      others = λ x off. noted x ∙ noted_other low n old below x (λ e. true≢false (sym (in_at x reached k there (sym e)) ∙ off)) ∙ inv.others x off;
      may = λ x. may_on low (get_or first.levels.items x 0) (fixed_at first.holds.items x) (fixed_at old.holds.items x) (fixed_at new.holds.items x) (inv.may x) (next x);
      taken = below_more _ _
          (λ i h e w. let x = get_or reached i 0 in may_keep low (get_or first.levels.items x 0) (fixed_at old.holds.items x) (fixed_at new.holds.items x) (next x) (inv.taken i h e w))
          (λ e w. noted n ∙ noted_here low n old below (level n ∙ e));
      rest = λ i from h. noted (get_or reached i 0) ∙ noted_other low n old below (get_or reached i 0) (λ e. c.requires.joined.distinct k i 0 (omega (arith, from)) h (sym e)) ∙ inv.rest i (omega (arith, from)) h;
      count = record { counted = λ r h. b.counted r (a.counted r h); looks = omega (arith, a.looks, b.looks, less) };
    }

-- after the last one nobody waits
past : (reached waiting levels : List ℕ) (low first end k i : ℕ) → end ≤ k → k ≤ i → ((get_or waiting (get_or reached i 0) 0 ≡ 0 → ⊥) → get_or levels (get_or reached i 0) 0 ≡ low → (first ≤ i) × (i < end)) → get_or levels (get_or reached i 0) 0 ≡ low → get_or waiting (get_or reached i 0) 0 ≡ 0
past reached waiting levels low first end k i a b among e = elim (eq_cases (get_or waiting (get_or reached i 0) 0) 0) [ inl z ↦ z | inr w ↦ absurd (omega (arith, a, b, (among w e).1)) ]

order : (i k : ℕ) → (i < k) ⊎ (k ≤ i)
order i k = grind arith

pub returns : goal.returns
returns g c = record {
  partly = c.loop-k.invariant.partly;
  noted =
      let inv = c.loop-k.invariant in
      let reached = c.args.reached.now in
      let first = c.args.filling.now in
      record {
        others = inv.others;
        may = inv.may;
        taken = λ x r at some.
            let i = at_in x reached r in
            let at' = ap (λ n. get_or first.levels.items n 0) i.2 ∙ at in
            let some' : 0 < get_or first.waiting.items (get_or reached i.0 0) 0 = omega (arith, some, ap (λ n. get_or first.waiting.items n 0) i.2) in
            elim (order i.0 c.loop-k.k) [
              | inl before ↦ subst (λ n. fixed_at c.loop-k.filling.holds.items n ≡ Some c.args.low.level) i.2 (inv.taken i.0 before at' some')
              | inr after ↦ absurd (omega (arith, some', past reached first.waiting.items first.levels.items c.args.low.level c.args.low.at.first c.args.low.at.end c.loop-k.k i.0 (omega (arith, c.loop-k-test.false)) after (c.requires.taken.among i.0 i.1) at'))
            ];
      };
  on = λ i h e.
      let s = c.args.system.now in
      let reached = c.args.reached.now in
      let first = c.args.filling.now in
      let inv = c.loop-k.invariant in
      let n = get_or reached i 0 in
      elim (order i c.loop-k.k) [
        | inl before ↦ inv.on i before e
        | inr after ↦
            let z = past reached first.waiting.items first.levels.items c.args.low.level c.args.low.at.first c.args.low.at.end c.loop-k.k i (omega (arith, c.loop-k-test.false)) after (c.requires.taken.among i h) e in
            fixed_stay s c.args.low.level (users_on s.users n) first c.loop-k.filling inv.partly (nobody_waits s c.args.touched.now reached first c.requires.joined c.requires.counted n (in_at n reached i h refl) z)
      ];
  count = c.loop-k.invariant.count;
}
