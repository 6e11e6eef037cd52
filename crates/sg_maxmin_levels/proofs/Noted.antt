-- Flows whose levels change are noted.
use Rattle.std.proofs.Common.{◌≡◌, ℕ, inl, inr, true, true≢false, Option, None, List, set, get_or-set_other, refl, sym, ap, subst, ◌∙◌}
use Rattle.sg_base.specs.MarkSet.{MarkSet, is_in, with_mark}
use Rattle.sg_maxmin.specs.Numbered.{level_at}
use Rattle.sg_maxmin_levels.specs.Settling.{AreNoted}
use Rattle.sg_maxmin.proofs.Listed.{bool_cases, eq_cases, mark_stays, mark_there}

pub noted_none : (log : MarkSet) (levels : List (Option ℕ)) → AreNoted log log levels levels
noted_none log levels = record { room = refl; grows = λ id i. i; kept = λ id i. refl }

pub noted_one : (log new : MarkSet) (levels levels' : List (Option ℕ)) (flow : ℕ) (v : Option ℕ) → new ≡ record log { members = with_mark flow log.members } → levels' ≡ set levels flow v → AreNoted log new levels levels'
noted_one log new levels levels' flow v e e' =
    let members : new.members ≡ with_mark flow log.members = ap (λ (m : MarkSet). m.members) e in
    record {
      room = ap (λ (m : MarkSet). m.room) e;
      grows = λ id i. subst (λ xs. is_in id xs ≡ true) (sym members) (mark_stays id flow log.members i);
      kept = λ id i. elim (eq_cases id flow) [
        | inl same ↦ absurd (true≢false (sym (subst (λ n. is_in n new.members ≡ true) (sym same) (subst (λ xs. is_in flow xs ≡ true) (sym members) (mark_there flow log.members))) ∙ i))
        | inr ne ↦ ap (λ ls. level_at ls id) e' ∙ get_or-set_other levels flow id v None ne
      ];
    }

pub noted_on : (a b c : MarkSet) (x y z : List (Option ℕ)) → AreNoted a b x y → AreNoted b c y z → AreNoted a c x z
noted_on a b c x y z first then = record {
  room = then.room ∙ first.room;
  grows = λ id i. then.grows id (first.grows id i);
  kept = λ id i. then.kept id i ∙ first.kept id (elim (bool_cases (is_in id b.members)) [ inl on ↦ absurd (true≢false (sym (then.grows id on) ∙ i)) | inr off ↦ off ]);
}
