-- What uses something that is off, as one of it is given up.
use Rattle.std.proofs.Common.{◌≡◌, ℕ, suc, ◌+◌, ◌-◌, ◌≤◌, Bool, true, false, cond, inl, inr, ◌⊎◌, Option, None, List, [], ◌∷◌, set, refl, sym, ap, ◌∙◌, arith}
use Rattle.sg_activity_table.specs.Slots.{passes, serials}
use Rattle.sg_activity.specs.Task.{is_hit}
use Rattle.sg_activity.specs.Underway.{Underway, given_up, hits}

same : (b : Bool) → (b ≡ true) ⊎ (b ≡ false)
same true = inl refl
same false = inr refl

-- ---- the first of those that meet a condition
module _ {X : Type 0} (test : X → Bool) where
  skipped : (n : ℕ) (x : Option X) (xs : List (Option X)) → passes test x ≡ false → serials test n (x ∷ xs) ≡ serials test (n + 1) xs
  unfolding serials
  skipped n x xs e = ap (λ b. cond b (n ∷ serials test (n + 1) xs) (serials test (n + 1) xs)) e

  found : (n : ℕ) (x : Option X) (xs : List (Option X)) → passes test x ≡ true → serials test n (x ∷ xs) ≡ n ∷ serials test (n + 1) xs
  unfolding serials
  found n x xs e = ap (λ b. cond b (n ∷ serials test (n + 1) xs) (serials test (n + 1) xs)) e

  nothing : (n s : ℕ) (rest : List ℕ) → serials test n [] ≡ s ∷ rest → ⊥
  unfolding serials
  nothing n s rest e = cc e

  from_there : (n s : ℕ) (xs : List (Option X)) (rest : List ℕ) → serials test n xs ≡ s ∷ rest → n ≤ s
  from_there n s [] rest e = absurd (nothing n s rest e)
  from_there n s (x ∷ xs) rest e = elim (same (passes test x)) [
    | inl yes_ ↦ let at : n ∷ serials test (n + 1) xs ≡ s ∷ rest = sym (found n x xs yes_) ∙ e in head_is at
    | inr no_ ↦ let more : n + 1 ≤ s = from_there (n + 1) s xs rest (sym (skipped n x xs no_) ∙ e) in omega (arith, more)
  ]
    where
      head_is : {l : List ℕ} → n ∷ l ≡ s ∷ rest → n ≤ s
      head_is at = let h : n ≡ s = cc at in omega (arith, h)

  rest_found : (n s : ℕ) (xs : List (Option X)) (rest : List ℕ) (y : Option X) → passes test y ≡ false → serials test n xs ≡ s ∷ rest → serials test n (set xs (s - n) y) ≡ rest
  rest_found n s [] rest y none e = absurd (nothing n s rest e)
  rest_found n s (x ∷ xs) rest y none e = elim (same (passes test x)) [
    | inl yes_ ↦
        let at : n ∷ serials test (n + 1) xs ≡ s ∷ rest = sym (found n x xs yes_) ∙ e in
        let h : n ≡ s = cc at in
        let z : s - n ≡ 0 = omega (arith, h) in
        let t : serials test (n + 1) xs ≡ rest = cc at in
        ap (λ k. serials test n (set (x ∷ xs) k y)) z ∙ skipped n y xs none ∙ t
    | inr no_ ↦
        let there : serials test (n + 1) xs ≡ s ∷ rest = sym (skipped n x xs no_) ∙ e in
        let low : n + 1 ≤ s = from_there (n + 1) s xs rest there in
        let z : s - n ≡ suc (s - (n + 1)) = omega (arith, low) in
        ap (λ k. serials test n (set (x ∷ xs) k y)) z ∙ skipped n x (set xs (s - (n + 1)) y) no_ ∙ rest_found (n + 1) s xs rest y none there
  ]

pub rest_is_hit : (under : Underway) (serial : ℕ) (rest : List ℕ) → hits under ≡ serial ∷ rest → hits (given_up serial under) ≡ rest
rest_is_hit under serial rest e = rest_found (is_hit under.on) 1 serial under.tasks rest None refl e
