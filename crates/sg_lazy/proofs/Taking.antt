-- Members of the first so many of a list.
use Rattle.std.proofs.Common.{◌≡◌, ◌≢◌, ℕ, zero, suc, ◌+◌, ◌<◌, ◌⊎◌, inl, inr, Bool, true, false, true≢false, ◌||◌, eqb, eq-eqb, ne_eqb, List, [], ◌∷◌, ◌++◌, length, length-take, get_or, take, AllPairs, refl, sym, ap, subst, ◌∙◌, arith}
use Rattle.std.proofs.lemmas.List.{take_more}
use Rattle.std.proofs.Math.Seq.{get_or-take}
use Rattle.std.specs.List.{list_any}
use Rattle.sg_base.specs.MarkSet.{is_in, with_mark}
use Rattle.sg_maxmin.proofs.Listed.{at_in, in_at, bool_cases}

any-append : (p : ℕ → Bool) (xs : List ℕ) (y : ℕ) → list_any p (xs ++ y ∷ []) ≡ list_any p xs || p y
any-append p [] y = or_false (p y)
  where
    or_false : (b : Bool) → b || false ≡ b
    or_false true = refl
    or_false false = refl
any-append p (x ∷ xs) y = ap (λ b. p x || b) (any-append p xs y) ∙ or_assoc (p x) (list_any p xs) (p y)
  where
    or_assoc : (a b c : Bool) → a || (b || c) ≡ (a || b) || c
    or_assoc true b c = refl
    or_assoc false b c = refl

pub in_take : (id : ℕ) (xs : List ℕ) (k : ℕ) → k < length xs → is_in id (take (k + 1) xs) ≡ is_in id (take k xs) || eqb (get_or xs k 0) id
in_take id xs k h = ap (is_in id) (take_more xs k 0 h) ∙ any-append (λ m. eqb m id) (take k xs) (get_or xs k 0)

pub not_before : (xs : List ℕ) (k : ℕ) → k < length xs → AllPairs (λ a b. a ≢ b) xs → is_in (get_or xs k 0) (take k xs) ≡ false
not_before xs k h once = elim (bool_cases (is_in (get_or xs k 0) (take k xs))) [
  | inr e ↦ e
  | inl e ↦
      let at = at_in (get_or xs k 0) (take k xs) e in
      let few : at.0 < k = omega (arith, at.1, length-take k xs) in
      absurd (once at.0 k 0 few h (sym (get_or-take k xs at.0 0 few) ∙ at.2))
]

pub in_take_self : (xs : List ℕ) (k : ℕ) → k < length xs → is_in (get_or xs k 0) (take (k + 1) xs) ≡ true
in_take_self xs k h = in_take (get_or xs k 0) xs k h ∙ ap (λ b. is_in (get_or xs k 0) (take k xs) || b) (eq-eqb (get_or xs k 0) (get_or xs k 0) refl) ∙ or_true (is_in (get_or xs k 0) (take k xs))
  where
    or_true : (b : Bool) → b || true ≡ true
    or_true true = refl
    or_true false = refl

pub in_take_other : (id : ℕ) (xs : List ℕ) (k : ℕ) → k < length xs → id ≢ get_or xs k 0 → is_in id (take (k + 1) xs) ≡ is_in id (take k xs)
in_take_other id xs k h ne = in_take id xs k h ∙ ap (λ b. is_in id (take k xs) || b) (ne_eqb (get_or xs k 0) id (λ e. ne (sym e))) ∙ or_false (is_in id (take k xs))
  where
    or_false : (b : Bool) → b || false ≡ b
    or_false true = refl
    or_false false = refl

-- a set stays one
pub mark_once : (number : ℕ) (xs : List ℕ) → AllPairs (λ a b. a ≢ b) xs → AllPairs (λ a b. a ≢ b) (with_mark number xs)
mark_once number xs once = elim (bool_cases (is_in number xs)) [
  | inl e ↦ subst (AllPairs (λ a b. a ≢ b)) (sym (same e)) once
  | inr e ↦ subst (AllPairs (λ a b. a ≢ b)) (sym (more e)) (λ i j d a b.
      let len = length-end xs number in
      elim (last_cases j (length xs) (omega (arith, b, len))) [
        | inl k ↦ λ q. once i j d a k (sym (before xs number i d (omega (arith, a, k))) ∙ q ∙ before xs number j d k)
        | inr k ↦ λ q.
            let f : i < length xs = omega (arith, a, k) in
            true≢false (sym (in_at number xs i f (sym (any_default xs i d 0 f) ∙ sym (before xs number i d f) ∙ q ∙ ap (λ n. get_or (xs ++ number ∷ []) n d) k ∙ at_end xs number d)) ∙ e)
      ])
]
  where
    same : is_in number xs ≡ true → with_mark number xs ≡ xs
    same e = rw e refl

    more : is_in number xs ≡ false → with_mark number xs ≡ xs ++ number ∷ []
    more e = rw e refl

    last_cases : (j n : ℕ) → j < n + 1 → (j < n) ⊎ (j ≡ n)
    last_cases j n h = grind arith

    length-end : (xs : List ℕ) (y : ℕ) → length (xs ++ y ∷ []) ≡ length xs + 1
    length-end [] y = refl
    length-end (x ∷ xs) y = omega (arith, length-end xs y)

    before : (xs : List ℕ) (y i d : ℕ) → i < length xs → get_or (xs ++ y ∷ []) i d ≡ get_or xs i d
    before [] y i d h = absurd (omega arith)
    before (x ∷ xs) y zero d h = refl
    before (x ∷ xs) y (suc i) d h = before xs y i d (omega arith)

    at_end : (xs : List ℕ) (y d : ℕ) → get_or (xs ++ y ∷ []) (length xs) d ≡ y
    at_end [] y d = refl
    at_end (x ∷ xs) y d = at_end xs y d

    any_default : (xs : List ℕ) (i d e : ℕ) → i < length xs → get_or xs i d ≡ get_or xs i e
    any_default [] i d e h = absurd (omega arith)
    any_default (x ∷ xs) zero d e h = refl
    any_default (x ∷ xs) (suc i) d e h = any_default xs i d e (omega arith)
