-- A rate update stays within the connected components of what was active, noted or stale.
use Rattle.std.proofs.Common.{◌≡◌, ◌≢◌, ℕ, ◌⊎◌, inl, inr, true, false, true≢false, cond, IsTrue, Option, List, [], ◌∷◌, ◌++◌, sym, ap, subst, ◌∙◌}
use Rattle.sg_base.specs.MarkSet.{MarkSet, is_in, with_mark}
use Rattle.sg_maxmin.specs.Sharing.{Sharing, uses_at}
use Rattle.sg_maxmin.proofs.Members.{In}
use Rattle.sg_maxmin_levels.specs.declared.levels.Levels.{Levels}
use Rattle.sg_maxmin_levels.specs.Settling.{is_active}
use Rattle.sg_maxmin_levels.specs.Kept.{ActivatesOnly, FlowStaysWithin, IsMoved}
use Rattle.sg_maxmin.proofs.Listed.{bool_cases, eq_cases}
use Rattle.sg_maxmin.proofs.Users.{in_is, is_in_In}

pub in_append : (id x : ℕ) (xs : List ℕ) → In id (xs ++ x ∷ []) → (id ≡ x) ⊎ In id xs
in_append id x [] (inl e) = inl (sym e)
in_append id x [] (inr i) = absurd i
in_append id x (y ∷ xs) (inl e) = inr (inl e)
in_append id x (y ∷ xs) (inr i) = elim (in_append id x xs i) [ inl e ↦ inl e | inr j ↦ inr (inr j) ]

pub marked_or : (id x : ℕ) (xs : List ℕ) → is_in id (with_mark x xs) ≡ true → (id ≡ x) ⊎ (is_in id xs ≡ true)
marked_or id x xs h = (elim (is_in x xs) as (λ b. is_in id (cond b xs (xs ++ x ∷ [])) ≡ true → (id ≡ x) ⊎ (is_in id xs ≡ true)) [
  | true ↦ λ k. inr k
  | false ↦ λ k. elim (in_append id x xs (is_in_In id (xs ++ x ∷ []) k)) [ inl e ↦ inl e | inr j ↦ inr (in_is id xs j) ]
]) h

pub moved_within : (s : Sharing) (old new : Levels) (flow : ℕ) (level : Option ℕ) → IsMoved s old new flow level → ActivatesOnly (uses_at s.slots flow) old.active.members new.active.members → FlowStaysWithin s flow old new
moved_within s old new flow level m only p q along here are = record {
  active = λ r on. elim (bool_cases (is_in r (uses_at s.slots flow))) [ inl used ↦ along.uses flow r here used | inr off ↦ are.active r (only r on off) ];
  moved = λ id i. elim (marked_or id flow old.moved.members (subst (λ (m : MarkSet). is_in id m.members ≡ true) m.noted i)) [ inl e ↦ subst (λ n. IsTrue (p n)) (sym e) here | inr j ↦ are.moved id j ];
  stale = λ id i. are.stale id (subst (λ (m : MarkSet). is_in id m.members ≡ true) m.stale i);
}

-- one resource less is active
pub less_active : (active active' : List ℕ) (c r : ℕ) → is_active active' c ≡ false → ((r : ℕ) → r ≢ c → is_active active' r ≡ is_active active r) → is_active active' r ≡ true → is_active active r ≡ true
less_active active active' c r gone rests on = elim (eq_cases r c) [
  | inl e ↦ absurd (true≢false (sym on ∙ ap (is_active active') e ∙ gone))
  | inr ne ↦ sym (rests r ne) ∙ on
]
