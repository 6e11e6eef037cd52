use Rattle.std.proofs.Common.{◌/◌, ℕ, List, Option, inl, inr, Some, get_or, ap, ap₂, sym, subst, ◌∙◌, arith}
use Rattle.sg_base.specs.MarkSet.{is_in}
use Rattle.sg_maxmin.specs.Step.{IsLeast}
use Rattle.sg_maxmin_solve.specs.Filling.{AreCounted, fixed_at, limits_at, unfixed_uses}
use Rattle.sg_maxmin_solve.proofs.Fixing.{level_stays}
use Rattle.sg_maxmin_solve.proofs.Keyed.{dated_on}
use Rattle.sg_maxmin_solve.proofs.Notes.{notes_kept, untaken_same}
use Rattle.sg_maxmin.proofs.Listed.{bool_cases}
use Rattle.sg_maxmin_solve.proofs.steps.step.Goals as goal

pub returns-clause-stepped : goal.returns-clause-stepped
returns-clause-stepped g c = λ i h. rw c.renew.ensures.kept.0 (c.fix_all.ensures.stepped i h)

pub returns-clause-levels : goal.returns-clause-levels
returns-clause-levels g c = λ x r.
    let old = c.args.filling.now in
    let mid = c.fix_all.new.filling in
    let new = c.renew.new.filling in
    let kept = c.renew.ensures.kept in
    elim (bool_cases (is_in x mid.stale.members)) [
      | inl e ↦ c.renew.ensures.levels x e
      | inr e ↦
          let same = c.fix_all.ensures.partly.stays x e in
          c.renew.ensures.others x e ∙ ap (λ xs. get_or xs x 0) c.fix_all.ensures.partly.levels ∙ c.requires.levels x r
          ∙ ap₂ (λ a b. a / b) (sym (ap (λ xs. get_or xs x 0) kept.1 ∙ same.left)) (sym (ap (λ xs. get_or xs x 0) kept.2 ∙ same.waiting))
    ]

pub returns-clause-count : goal.returns-clause-count
returns-clause-count g c =
    let s = c.args.system.now in
    let touched = c.args.touched.now in
    let mid = c.fix_all.new.filling in
    let new = c.renew.new.filling in
    let kept = c.renew.ensures.kept in
    let out = c.fix_all.ensures.count in
    record {
      counted = λ test h.
          subst (λ (xs : List (Option ℕ)). AreCounted s xs touched new.left.items new.waiting.items test) (sym kept.0)
          (subst (λ (xs : List ℕ). AreCounted s mid.fixed.items touched xs new.waiting.items test) (sym kept.1)
          (subst (λ (xs : List ℕ). AreCounted s mid.fixed.items touched mid.left.items xs test) (sym kept.2) (out.counted test h)));
      looks = omega (arith, out.looks, untaken_same s c.args.reached.now mid new kept.3, ap (λ (xs : List (Option ℕ)). unfixed_uses s.slots xs touched) kept.0);
    }

pub returns-clause-kept : goal.returns-clause-kept
returns-clause-kept g c = λ id x e.
    let old = c.args.filling.now in
    let mid = c.fix_all.new.filling in
    let low = c.args.low.level in
    ap (λ xs. fixed_at xs id) c.renew.ensures.kept.0
    ∙ level_stays low (IsLeast (Some low) (limits_at c.args.system.now.slots old.levels.items id)) (fixed_at old.fixed.items id) (fixed_at mid.fixed.items id) x (c.fix_all.ensures.partly.flows id) e

pub returns-clause-dated : goal.returns-clause-dated
returns-clause-dated g c =
    dated_on c.args.system.now c.args.low.level c.args.reached.now c.args.filling.now c.fix_all.new.filling c.renew.new.filling c.requires.at.dated c.fix_all.ensures.partly c.renew.ensures.kept.2 c.renew.ensures.others c.renew.ensures.dated

pub returns-clause-noted : goal.returns-clause-noted
returns-clause-noted g c = notes_kept c.args.reached.now c.args.low.level c.args.filling.now c.fix_all.new.filling c.renew.new.filling c.fix_all.ensures.noted c.renew.ensures.kept.3
