-- A list is cut at its first element that passes.
use Rattle.std.proofs.Common.{◌≡◌, ◌<◌, ◌≤◌, ◌+◌, ◌∙◌, ap, refl, ℕ, Bool, true, false, cond, ltb, List, [], ◌∷◌, length, take, drop, None, Some, inl, inr, arith}
use Rattle.std.specs.List.{position, position_or_len, slice_split, onto_first}
use Rattle.std.proofs.lemmas.Bool.{cases_Bool, cases_lt}
use Rattle.std.proofs.lemmas.Bool.Decides.{nat_tests}
use Rattle.std.proofs.lemmas.List.Splits.{slice_split_first, slice_split-cons_no}

pub first_yes : (p : ℕ → Bool) (b : ℕ) (xs : List ℕ) → p b ≡ true → position_or_len p (b ∷ xs) ≡ 0
first_yes p b xs is = rw is refl

pub first_no : (p : ℕ → Bool) (b : ℕ) (xs : List ℕ) → p b ≡ false → position_or_len p (b ∷ xs) ≡ 1 + position_or_len p xs
first_no p b xs isnt = rw isnt refl

split_whole : (p : ℕ → Bool) (xs : List ℕ) → length xs ≤ position_or_len p xs → slice_split p xs ≡ xs ∷ []
split_whole p [] h = refl
split_whole p (b ∷ xs) h = elim (cases_Bool (p b)) [
  | inl is ↦ absurd (omega (arith, first_yes p b xs is))
  | inr isnt ↦
      let further : length xs ≤ position_or_len p xs = omega (arith, first_no p b xs isnt) in
      slice_split-cons_no p b xs isnt ∙ ap (onto_first b) (split_whole p xs further)
]

pub some_cases : (k n i : ℕ) → cond (ltb k n) (Some k) None ≡ Some i → (k < n) × (k ≡ i)
some_cases k n i e = elim (cases_lt k n) [
  | inl lt ↦ (lt, grind (arith, nat_tests))
  | inr le ↦ grind (arith, nat_tests)
]

pub none_cases : (k n : ℕ) → cond (ltb k n) (Some k) None ≡ None → n ≤ k
none_cases k n e = elim (cases_lt k n) [
  | inl lt ↦ grind (arith, nat_tests)
  | inr le ↦ le
]

pub split_some : (p : ℕ → Bool) (xs : List ℕ) (i : ℕ) → position p xs ≡ Some i → slice_split p xs ≡ take i xs ∷ slice_split p (drop (i + 1) xs)
split_some p xs i e =
    let (lt, is) = some_cases (position_or_len p xs) (length xs) i e in
    slice_split_first p xs 0 lt ∙ ap (λ k. take k xs ∷ slice_split p (drop (k + 1) xs)) is

pub some_below : (p : ℕ → Bool) (xs : List ℕ) (i : ℕ) → position p xs ≡ Some i → i < length xs
some_below p xs i e =
    let (lt, is) = some_cases (position_or_len p xs) (length xs) i e in
    omega arith

pub split_none : (p : ℕ → Bool) (xs : List ℕ) → position p xs ≡ None → slice_split p xs ≡ xs ∷ []
split_none p xs e = split_whole p xs (none_cases (position_or_len p xs) (length xs) e)
