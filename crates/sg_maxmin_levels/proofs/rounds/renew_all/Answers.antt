use Rattle.std.proofs.Common.{◌≡◌, ◌≢◌, AllPairs, ◌+◌, ◌<◌, ◌∷◌, inl, inr, ℕ, List, true, suc, drop, get_or, length, sym, ap, subst, ◌∙◌, arith}
use Rattle.sg_base.specs.MarkSet.{MarkSet, is_in}
use Rattle.sg_maxmin.specs.Sharing.{uses_at}
use Rattle.sg_maxmin_levels.specs.Kept.{IsBetweenBut}
use Rattle.sg_maxmin.proofs.Listed.{part_next, in_at, take_all}
use Rattle.sg_maxmin_levels.proofs.Refilling.{in_take}
use Rattle.sg_maxmin_levels.proofs.Noted.{noted_on}
use Rattle.sg_maxmin_levels.proofs.Steps.{drop_end, drop_step}
use Rattle.sg_maxmin_levels.proofs.Renewing.{settling_from}
use Rattle.sg_maxmin_levels.proofs.rounds.renew_all.Goals as goal

pub renew-requires : goal.renew-requires
renew-requires g c =
    let stale = c.args.kept.now.stale.members in
    let k = c.loop-k.k in
    let inv = c.loop-k.invariant in
    let less : k < length stale = omega (arith, c.loop-k-test.true, ap (λ (xs : List ℕ). length xs) c.members-k-end.ensures.members) in
    let is : get_or c.members.result.now k 0 ≡ get_or stale k 0 = ap (λ xs. get_or xs k 0) (c.members.ensures.members ∙ ap (λ (m : MarkSet). m.members) inv.stale) in
    record { kept = inv.between.kept; held = inv.alive (get_or c.members.result.now k 0) (in_at (get_or c.members.result.now k 0) stale k less (sym is)) }

pub loop-k-preserved : goal.loop-k-preserved
loop-k-preserved g c =
    let s = c.args.system.now in
    let first = c.args.kept.now in
    let stale = first.stale.members in
    let k = c.loop-k.k in
    let inv = c.loop-k.invariant in
    let before = c.loop-k.kept in
    let after = c.renew.new.kept in
    let less : k < length stale = omega (arith, c.loop-k-test.true, ap (λ (xs : List ℕ). length xs) c.members-k-end.ensures.members) in
    let is : get_or c.members.result.now k 0 ≡ get_or stale k 0 = ap (λ xs. get_or xs k 0) (c.members.ensures.members ∙ ap (λ (m : MarkSet). m.members) inv.stale) in
    let rest = drop (suc k) stale in
    let row : drop k stale ≡ get_or c.members.result.now k 0 ∷ rest = drop_step stale k less ∙ ap (λ id. id ∷ rest) (sym is) in
    let next : suc k ≡ k + 1 = omega arith in
    record {
      between = subst (λ n. IsBetweenBut s after (drop n stale)) next (c.renew.ensures.renewed rest (subst (IsBetweenBut s before) row inv.between));
      stale = c.renew.ensures.stale ∙ inv.stale;
      noted = λ id i. elim (in_take id stale k less i) [
        | inl e ↦ subst (λ n. is_in n after.moved.members ≡ true) (is ∙ sym e) c.renew.ensures.noted
        | inr j ↦ c.renew.ensures.moves.moved.grows id (inv.noted id j)
      ];
      alive = inv.alive;
      moved = noted_on first.moved before.moved after.moved first.levels.items before.levels.items after.levels.items inv.moved c.renew.ensures.moves.moved;
      within = λ p q along are. c.renew.ensures.moves.within p q along (are.stale (get_or c.members.result.now k 0) (in_at (get_or c.members.result.now k 0) stale k less (sym is))) (inv.within p q along are);
      looks = omega (arith, inv.looks, c.renew.ensures.looks, part_next (λ id. length (uses_at s.slots id)) stale k less, ap (λ id. length (uses_at s.slots id)) is);
    }

pub returns-clause-settling : goal.returns-clause-settling
returns-clause-settling g c =
    let s = c.args.system.now in
    let stale = c.args.kept.now.stale.members in
    let end : c.loop-k.k ≡ length stale = omega (arith, c.loop-k-test.false, c.loop-k.auto.k-end, ap (λ (xs : List ℕ). length xs) c.members-k-end.ensures.members) in
    settling_from s c.loop-k.kept (subst (IsBetweenBut s c.loop-k.kept) (drop_end stale c.loop-k.k end) c.loop-k.invariant.between)

pub returns-clause-stale : goal.returns-clause-stale
returns-clause-stale g c =
    let stale = c.args.kept.now.stale.members in
    let end : c.loop-k.k ≡ length stale = omega (arith, c.loop-k-test.false, c.loop-k.auto.k-end, ap (λ (xs : List ℕ). length xs) c.members-k-end.ensures.members) in
    let same : c.loop-k.kept.stale.members ≡ stale = ap (λ (m : MarkSet). m.members) c.loop-k.invariant.stale in
    record {
      held = λ id i. c.loop-k.invariant.alive id (subst (λ xs. is_in id xs ≡ true) same i);
      noted = λ id i. c.loop-k.invariant.noted id (subst (λ xs. is_in id xs ≡ true) (same ∙ sym (take_all stale c.loop-k.k end)) i);
    }

pub returns-clause-once : goal.returns-clause-once
returns-clause-once g c = subst (AllPairs (λ a b. a ≢ b)) c.members-k-end.ensures.members c.members-k-end.ensures.once
