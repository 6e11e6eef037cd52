-- Lists of what may be there.
use Rattle.std.proofs.Common.{◌≡◌, ◌≢◌, ℕ, zero, suc, ◌<◌, ◌⊎◌, inl, inr, true≢false, Option, None, Some, IsSome, List, [], ◌∷◌, length, set, get_or, get_or-set_same, get_or-set_other, refl, sym, ap, arith}

pub eq_cases : (a b : ℕ) → (a ≡ b) ⊎ (a ≢ b)
eq_cases a b = grind arith

pub some_same : {X : Type 0} {x y : X} → Some x ≡ Some y → x ≡ y
some_same e = cc e

pub there_within : {X : Type 0} (xs : List (Option X)) (i : ℕ) (x : X) → get_or xs i None ≡ Some x → i < length xs
there_within [] i x e = absurd (cc e)
there_within (y ∷ xs) zero x e = omega arith
there_within (y ∷ xs) (suc i) x e = omega (arith, there_within xs i x e)

pub set_cases : {X : Type 0} (xs : List (Option X)) (i j : ℕ) (slot : Option X) (x : X) → get_or (set xs i slot) j None ≡ Some x → (j ≡ i) × (slot ≡ Some x) ⊎ (j ≢ i) × (get_or xs j None ≡ Some x)
set_cases [] i j slot x e = absurd (cc e)
set_cases (y ∷ xs) zero zero slot x e = inl (refl, e)
set_cases (y ∷ xs) zero (suc j) slot x e = inr (λ z. absurd (omega (arith, z)), e)
set_cases (y ∷ xs) (suc i) zero slot x e = inr (λ z. absurd (omega (arith, z)), e)
set_cases (y ∷ xs) (suc i) (suc j) slot x e = elim (set_cases xs i j slot x e) [
  | inl r ↦ inl (ap (λ n. suc n) r.0, r.1)
  | inr r ↦ inr (λ z. r.0 (omega (arith, z)), r.1)
]

-- ---- keys
pub set_here : {X : Type 0} (xs : List (Option X)) (k : ℕ) (y : Option X) → k < length xs → get_or (set xs k y) k None ≡ y
set_here xs k y within = get_or-set_same xs k y None within

pub set_there : {X : Type 0} (xs : List (Option X)) (k n : ℕ) (y : Option X) → n ≢ k → get_or (set xs k y) n None ≡ get_or xs n None
set_there xs k n y ne = get_or-set_other xs k n y None ne

pub not_there : {X : Type 0} (o : Option X) → IsSome o → o ≡ None → ⊥
not_there None some none = true≢false (sym some)
not_there (Some x) some none = cc none
