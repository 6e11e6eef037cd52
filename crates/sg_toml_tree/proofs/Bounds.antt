-- The numbers of names stay below the count of the rows that give them.
use Rattle.std.proofs.Common.{ℕ, ◌+◌, ◌<◌, ◌≤◌, Bool, List, [], ◌∷◌, length, Option, Some, None, IfSome, inl, inr, arith}
use Rattle.std.proofs.lemmas.Bool.{cases_Bool}
use Rattle.std.specs.Map.{lookup}
use Rattle.sg_toml_tree.proofs.NameSpaceLemmas.{lookup_append}
use Rattle.sg_toml_tree.specs.Along.{along}
use Rattle.sg_toml_tree.specs.NameSpaces.{with_number, or_else}

pub below_all : (o : Option ℕ) (n m : ℕ) → n ≤ m → IfSome o (λ i. i < n) → IfSome o (λ i. i < m)
below_all None n m within below = tt
below_all (Some i) n m within below = omega (arith, below)

pub below_or : (a b : Option ℕ) (n : ℕ) → IfSome a (λ i. i < n) → IfSome b (λ i. i < n) → IfSome (or_else a b) (λ i. i < n)
below_or None b n p q = q
below_or (Some i) b n p q = p

pub numbered_below : {K : Type 0} (test : K → Bool) (n : ℕ) (keys : List K) → IfSome (lookup test (with_number n keys)) (λ i. i < n + 1)
numbered_below test n [] = tt
numbered_below test n (k ∷ keys) =
    elim (cases_Bool (test k)) [
      | inl here ↦ rw here (omega arith)
      | inr other ↦ rw other (numbered_below test n keys)
    ]

-- if each item gives no number above its own, all stay below the end
pub along_below : {A K : Type 0} (test : K → Bool) (f : ℕ → A → List (K × ℕ)) (before : ℕ) → ((j : ℕ) (x : A) → IfSome (lookup test (f j x)) (λ n. n < before + j + 1))
    → (i : ℕ) (xs : List A) → IfSome (lookup test (along f i xs)) (λ n. n < before + i + length xs)
along_below test f before each i [] = tt
along_below test f before each i (x ∷ xs) =
    rw (lookup_append test (f i x) (along f (i + 1) xs))
    (below_or _ _ _
    (below_all _ _ _ (omega arith) (each i x))
    (below_all _ _ _ (omega arith) (along_below test f before each (i + 1) xs)))
