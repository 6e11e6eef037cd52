-- A list in which each number is larger than the one before is determined by its members.
use Rattle.std.proofs.Common.{◌≡◌, ◌<◌, ◌≤◌, ◌==◌, ◌||◌, ℕ, Bool, true, false, true≢false, cond, Less, eqb, inl, inr, List, [], ◌∷◌, refl, sym, ap, ◌∙◌, arith}
use Rattle.std.proofs.lemmas.Bool.{cases_eq, cases_lt}
use Rattle.std.proofs.lemmas.List.Sorted.{list_any-IsPermutation}
use Rattle.std.proofs.lemmas.Map.Keys.{IsStrictlyIncreasing-dedup, sorted_from_strictly_increasing}
use Rattle.std.specs.List.{AllByRecursion, dedup, dedup_from, list_any}
use Rattle.std.specs.List.Sorted.{IsPermutation, IsSorted, IsStrictlySortedBy}
use Rattle.std.specs.Ordering.{nat_cmp}
use Rattle.std.specs.Prelude.{nat_lt}
use Rattle.sg_requests.specs.Requested.{rising_numbers_with, rising_numbers}

abbrev has : ℕ → List ℕ → Bool
has n xs = list_any (λ m. n == m) xs

unfoldable IsAbove : ℕ → List ℕ → Type 0
IsAbove n [] = Unit {0}
IsAbove n (x ∷ xs) = (n < x) × IsAbove n xs

unfoldable IsRising : List ℕ → Type 0
IsRising [] = Unit {0}
IsRising (x ∷ xs) = IsAbove x xs × IsRising xs

eq_self : (n : ℕ) → (n == n) ≡ true
eq_self n = grind arith

eq_yes : (a b : ℕ) → a ≡ b → (a == b) ≡ true
eq_yes a b h = grind (arith, h)

eq_no : (a b : ℕ) → a < b → (a == b) ≡ false
eq_no a b h = grind (arith, h)

eq_not : (a b : ℕ) → b < a → (a == b) ≡ false
eq_not a b h = grind (arith, h)

below : (m n : ℕ) (xs : List ℕ) → m ≤ n → IsAbove n xs → IsAbove m xs
unfolding IsAbove
below m n [] le above = tt
below m n (x ∷ xs) le above = (omega (arith, le, above.0), below m n xs le above.1)

above_lacks : (n : ℕ) (xs : List ℕ) → IsAbove n xs → has n xs ≡ false
unfolding IsAbove
above_lacks n [] above = refl
above_lacks n (x ∷ xs) above = ap (λ b. b || has n xs) (eq_no n x above.0) ∙ above_lacks n xs above.1

-- ---- a list with the same members
or_true : (b c : Bool) → b ≡ true → (b || c) ≡ true
or_true b c e = ap (λ x. x || c) e

or_false : (b c : Bool) → b ≡ false → (b || c) ≡ c
or_false b c e = ap (λ x. x || c) e

unique : (xs ys : List ℕ) → IsRising xs → IsRising ys → ((n : ℕ) → has n xs ≡ has n ys) → xs ≡ ys
unfolding IsRising
unique [] [] r s same = refl
unique [] (y ∷ ys) r s same = absurd (true≢false (sym (same y ∙ or_true (y == y) (has y ys) (eq_self y))))
unique (x ∷ xs) [] r s same = absurd (true≢false (sym (or_true (x == x) (has x xs) (eq_self x)) ∙ same x))
unique (x ∷ xs) (y ∷ ys) r s same = elim (cases_eq x y) [
  | inl equal ↦ ap (λ n. n ∷ xs) equal ∙ ap (λ l. y ∷ l) (unique xs ys r.1 s.1 (λ n. rest n equal))
  | inr apart ↦ elim (cases_lt x y) [
    | inl less ↦ absurd (true≢false (sym (or_true (x == x) (has x xs) (eq_self x)) ∙ same x ∙ or_false (x == y) (has x ys) (eq_no x y less) ∙ above_lacks x ys (below x y ys (omega (arith, less)) s.0)))
    | inr more ↦
        let less : y < x = omega (arith, more, apart) in
        absurd (true≢false (sym (or_true (y == y) (has y ys) (eq_self y)) ∙ sym (same y) ∙ or_false (y == x) (has y xs) (eq_no y x less) ∙ above_lacks y xs (below y x xs (omega (arith, less)) r.0)))
  ]
]
  where
    rest : (n : ℕ) → x ≡ y → has n xs ≡ has n ys
    rest n equal = elim (cases_eq n x) [
      | inl is ↦ ap (λ k. has k xs) is ∙ above_lacks x xs r.0 ∙ sym (ap (λ k. has k ys) (is ∙ equal) ∙ above_lacks y ys s.0)
      | inr isnt ↦ sym (or_false (n == x) (has n xs) (grind (arith, isnt))) ∙ same n ∙ or_false (n == y) (has n ys) (grind (arith, isnt, equal))
    ]

-- ---- what `rising` gives
or_swap : (a b c : Bool) → (a || (b || c)) ≡ (b || (a || c))
or_swap true true c = refl
or_swap true false c = refl
or_swap false b c = refl

or_twice : (a b c : Bool) → a ≡ b → (a || (b || c)) ≡ (b || c)
or_twice true b c e = sym (or_true b c (sym e))
or_twice false b c e = refl

entered_has : (n m : ℕ) (xs : List ℕ) → has n (rising_numbers_with m xs) ≡ (n == m) || has n xs
unfolding rising_numbers_with
entered_has n m [] = refl
entered_has n m (k ∷ xs) = by (nat_lt m k) (m == k) refl (entered_has n m xs)
  where
    by : (less same : Bool) → (m == k) ≡ same → has n (rising_numbers_with m xs) ≡ (n == m) || has n xs → has n (cond less (m ∷ k ∷ xs) (cond same (k ∷ xs) (k ∷ rising_numbers_with m xs))) ≡ (n == m) || ((n == k) || has n xs)
    by true same e rest = refl
    by false true e rest = sym (or_twice (n == m) (n == k) (has n xs) (ap (λ j. n == j) (grind (arith, e))))
    by false false e rest = ap (λ b. (n == k) || b) rest ∙ or_swap (n == k) (n == m) (has n xs)

rising_has : (n : ℕ) (xs : List ℕ) → has n (rising_numbers xs) ≡ has n xs
unfolding rising_numbers
rising_has n [] = refl
rising_has n (x ∷ xs) = entered_has n x (rising_numbers xs) ∙ ap (λ b. (n == x) || b) (rising_has n xs)

entered_above : (n m : ℕ) (xs : List ℕ) → n < m → IsAbove n xs → IsAbove n (rising_numbers_with m xs)
unfolding rising_numbers_with IsAbove
entered_above n m [] less above = (less, tt)
entered_above n m (k ∷ xs) less above = by (nat_lt m k) (m == k) (entered_above n m xs less above.1)
  where
    by : (b same : Bool) → IsAbove n (rising_numbers_with m xs) → IsAbove n (cond b (m ∷ k ∷ xs) (cond same (k ∷ xs) (k ∷ rising_numbers_with m xs)))
    by true same rest = (less, above)
    by false true rest = above
    by false false rest = (above.0, rest)

entered_rises : (m : ℕ) (xs : List ℕ) → IsRising xs → IsRising (rising_numbers_with m xs)
unfolding rising_numbers_with IsRising IsAbove
entered_rises m [] rises = (tt, tt)
entered_rises m (k ∷ xs) rises = by (nat_lt m k) (m == k) refl refl (entered_rises m xs rises.1)
  where
    by : (b same : Bool) → nat_lt m k ≡ b → (m == k) ≡ same → IsRising (rising_numbers_with m xs) → IsRising (cond b (m ∷ k ∷ xs) (cond same (k ∷ xs) (k ∷ rising_numbers_with m xs)))
    by true same less e rest = let under : m < k = grind (arith, less) in ((under, below m k xs (omega (arith, under)) rises.0), rises)
    by false true less e rest = rises
    by false false less e rest = (entered_above k m xs (grind (arith, less, e)) rises.0, rest)

rising_rises : (xs : List ℕ) → IsRising (rising_numbers xs)
unfolding rising_numbers IsRising
rising_rises [] = tt
rising_rises (x ∷ xs) = entered_rises x (rising_numbers xs) (rising_rises xs)

-- ---- what a sort and a dedup give
dedup_from_has : (n k : ℕ) (xs : List ℕ) → has n (dedup_from eqb k xs) ≡ (n == k) || has n xs
dedup_from_has n k [] = refl
dedup_from_has n k (x ∷ xs) = by (eqb x k) refl (dedup_from_has n k xs) (dedup_from_has n x xs)
  where
    by : (same : Bool) → eqb x k ≡ same → has n (dedup_from eqb k xs) ≡ (n == k) || has n xs → has n (dedup_from eqb x xs) ≡ (n == x) || has n xs → has n (cond same (dedup_from eqb k xs) (k ∷ dedup_from eqb x xs)) ≡ (n == k) || ((n == x) || has n xs)
    by true e one other = one ∙ sym (or_swap (n == k) (n == x) (has n xs) ∙ or_twice (n == x) (n == k) (has n xs) (ap (λ j. n == j) (grind (arith, e))))
    by false e one other = ap (λ b. (n == k) || b) other

dedup_has : (n : ℕ) (xs : List ℕ) → has n (dedup eqb xs) ≡ has n xs
dedup_has n [] = refl
dedup_has n (x ∷ xs) = dedup_from_has n x xs

above_from : (x : ℕ) (xs : List ℕ) → AllByRecursion (λ y. nat_cmp x y ≡ Less) xs → IsAbove x xs
unfolding IsAbove
above_from x [] all = tt
above_from x (y ∷ ys) all = (grind (arith, all.0), above_from x ys all.1)

rises_from : (xs : List ℕ) → IsStrictlySortedBy nat_cmp xs → IsRising xs
unfolding IsRising IsStrictlySortedBy
rises_from [] sorted = tt
rises_from (x ∷ xs) sorted = (above_from x xs sorted.0, rises_from xs sorted.1)

pub sorted_is : (xs ys zs : List ℕ) → IsPermutation xs ys → IsSorted nat_cmp ys → zs ≡ dedup eqb ys → zs ≡ rising_numbers xs
sorted_is xs ys zs moved sorted kept =
    kept
    ∙ unique (dedup eqb ys) (rising_numbers xs) (rises_from (dedup eqb ys) (sorted_from_strictly_increasing (dedup eqb ys) (IsStrictlyIncreasing-dedup ys sorted))) (rising_rises xs)
    (λ n. dedup_has n ys ∙ sym (list_any-IsPermutation (λ m. n == m) xs ys moved) ∙ sym (rising_has n xs))
