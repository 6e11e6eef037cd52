-- What a filter keeps of a range of numbers, and how many pass a test.
use Rattle.std.proofs.Common.{◌≡◌, ◌≢◌, ℕ, zero, suc, ◌+◌, ◌-◌, ◌*◌, ◌<◌, ◌≤◌, inl, inr, Bool, true, false, cond, ◌&&◌, List, [], ◌∷◌, ◌++◌, map, reverse, length, replicate, refl, sym, ap, subst, ◌∙◌, arith}
use Rattle.std.specs.List.{All, count_by, filter, flat_map, range_with_len}
use Rattle.std.proofs.lemmas.Bool.{cases_eq, cases_Bool}
use Rattle.std.proofs.lemmas.List.{get_or-reverse, length-reverse}
use Rattle.std.proofs.lemmas.List.Elements.{All-cons, All-head, All-nil, All-tail}
use Rattle.std.proofs.lemmas.List.FromFn.{get_or-range_with_len, length-range_with_len}
use Rattle.std.proofs.lemmas.List.Folds.{sum_by-replicate}
use Rattle.std.proofs.lemmas.List.Sorted.{IsPermutation-reverse, sum_by-IsPermutation}
use Rattle.std.proofs.lemmas.List.Sums.{sum_by-append, sum_by-cons}

-- ---- filters
pub none_kept : (test : ℕ → Bool) (a n : ℕ) → ((k : ℕ) → a ≤ k → test k ≡ false) →
    filter test (range_with_len a n) ≡ []
none_kept test a zero fails = refl
none_kept test a (suc n) fails =
    rw (fails a (omega arith)) (none_kept test (a + 1) n (λ k above. fails k (omega arith)))

pub one_kept : (test : ℕ → Bool) (a n k : ℕ) → a ≤ k → k < a + n → test k ≡ true →
    ((j : ℕ) → j ≢ k → test j ≡ false) → filter test (range_with_len a n) ≡ k ∷ []
one_kept test a zero k from below passes others = absurd (omega arith)
one_kept test a (suc n) k from below passes others = elim (cases_eq a k) [
  | inl here ↦
      let at : test a ≡ true = subst (λ j. test j ≡ true) (sym here) passes in
      rw at (ap (λ j. j ∷ filter test (range_with_len (a + 1) n)) here
      ∙ ap (λ xs. k ∷ xs) (none_kept test (a + 1) n (λ j above. others j (λ e. omega (arith, e)))))
  | inr behind ↦
      rw (others a behind) (one_kept test (a + 1) n k (omega arith) (omega arith) passes others)
]

pub front_kept : (test : ℕ → Bool) (a n count : ℕ) → count ≤ n →
    ((k : ℕ) → a ≤ k → k < a + count → test k ≡ true) → ((k : ℕ) → a + count ≤ k → test k ≡ false) →
    filter test (range_with_len a n) ≡ range_with_len a count
front_kept test a zero zero within passes fails = refl
front_kept test a zero (suc count) within passes fails = absurd (omega arith)
front_kept test a (suc n) zero within passes fails =
    none_kept test a (suc n) (λ k above. fails k (omega arith))
front_kept test a (suc n) (suc count) within passes fails =
    rw (passes a (omega arith) (omega arith)) (ap (λ xs. a ∷ xs)
    (front_kept test (a + 1) n count (omega arith) (λ k above below. passes k (omega arith) (omega arith))
    (λ k above. fails k (omega arith))))

-- a filter after a map after a filter
pub filter_map_filter : (p t : ℕ → Bool) (f : ℕ → ℕ) (xs : List ℕ) →
    filter p (map f (filter t xs)) ≡ map f (filter (λ k. t k && p (f k)) xs)
filter_map_filter p t f [] = refl
filter_map_filter p t f (x ∷ xs) = elim (cases_Bool (t x)) [
  | inr fails ↦ rw fails (filter_map_filter p t f xs)
  | inl holds ↦ elim (cases_Bool (p (f x))) [
    | inl both ↦ rw (holds, both) (ap (λ ys. f x ∷ ys) (filter_map_filter p t f xs))
    | inr one ↦ rw (holds, one) (filter_map_filter p t f xs)
  ]
]

pub filter_map_map : (p : ℕ → Bool) (f g : ℕ → ℕ) (xs : List ℕ) →
    map f (filter p (map g xs)) ≡ map (λ k. f (g k)) (filter (λ k. p (g k)) xs)
filter_map_map p f g [] = refl
filter_map_map p f g (x ∷ xs) = elim (cases_Bool (p (g x))) [
  | inl holds ↦ rw holds (ap (λ ys. f (g x) ∷ ys) (filter_map_map p f g xs))
  | inr fails ↦ rw fails (filter_map_map p f g xs)
]

pub filter_through : (p q : ℕ → Bool) (f g : ℕ → ℕ) (xs : List ℕ) →
    filter p (map f (filter q (map g xs))) ≡ map (λ k. f (g k)) (filter (λ k. q (g k) && p (f (g k))) xs)
filter_through p q f g xs =
    ap (filter p) (filter_map_map q f g xs) ∙ filter_map_filter p (λ k. q (g k)) (λ k. f (g k)) xs

-- ---- counts
pub count_by-append : {X : Type 0} (p : X → Bool) (xs ys : List X) →
    count_by p (xs ++ ys) ≡ count_by p xs + count_by p ys
count_by-append p xs ys = sum_by-append (λ x. cond (p x) 1 0) xs ys

pub count_by-map : {X Y : Type 0} (p : Y → Bool) (f : X → Y) (xs : List X) →
    count_by p (map f xs) ≡ count_by (λ x. p (f x)) xs
count_by-map p f [] = refl
count_by-map p f (x ∷ xs) =
    sum_by-cons (λ y. cond (p y) 1 0) (f x) (map f xs)
    ∙ ap (λ n. cond (p (f x)) 1 0 + n) (count_by-map p f xs)
    ∙ sym (sum_by-cons (λ y. cond (p (f y)) 1 0) x xs)

pub count_by-reverse : {X : Type 0} (p : X → Bool) (xs : List X) → count_by p (reverse xs) ≡ count_by p xs
count_by-reverse p xs = sum_by-IsPermutation (λ x. cond (p x) 1 0) xs (reverse xs) (IsPermutation-reverse xs)

pub count_by-none : {X : Type 0} (xs : List X) → count_by (λ _. false) xs ≡ 0
count_by-none [] = refl
count_by-none (x ∷ xs) = sum_by-cons (λ _. 0) x xs ∙ ap (λ n. 0 + n) (count_by-none xs)

pub count_by-each : {X : Type 0} (xs : List X) → count_by (λ _. true) xs ≡ length xs
count_by-each [] = refl
count_by-each (x ∷ xs) = sum_by-cons (λ _. 1) x xs ∙ omega (arith, count_by-each xs)

pub count_by-replicate : {X : Type 0} (p : X → Bool) (n : ℕ) (x : X) →
    count_by p (replicate n x) ≡ n * cond (p x) 1 0
count_by-replicate p n x = sum_by-replicate (λ y. cond (p y) 1 0) n x

-- two tests that agree on a range
pub count_by_agree : (p q : ℕ → Bool) (a n : ℕ) → ((k : ℕ) → a ≤ k → k < a + n → p k ≡ q k) →
    count_by p (range_with_len a n) ≡ count_by q (range_with_len a n)
count_by_agree p q a zero agree = refl
count_by_agree p q a (suc n) agree =
    sum_by-cons (λ k. cond (p k) 1 0) a (range_with_len (a + 1) n)
    ∙ ap (λ b. cond b 1 0 + count_by p (range_with_len (a + 1) n)) (agree a (omega arith) (omega arith))
    ∙ ap (λ m. cond (q a) 1 0 + m) (count_by_agree p q (a + 1) n (λ k from below. agree k (omega arith) (omega arith)))
    ∙ sym (sum_by-cons (λ k. cond (q k) 1 0) a (range_with_len (a + 1) n))

-- two elements for each
pub count_by-pairs : {X Y : Type 0} (p : Y → Bool) (f g : X → Y) (xs : List X) →
    count_by p (flat_map (λ x. f x ∷ g x ∷ []) xs) ≡ count_by (λ x. p (f x)) xs + count_by (λ x. p (g x)) xs
count_by-pairs p f g [] = refl
count_by-pairs p f g (x ∷ xs) =
    let rest = flat_map (λ y. f y ∷ g y ∷ []) xs in
    omega (
      arith,
      sum_by-cons (λ y. cond (p y) 1 0) (f x) (g x ∷ rest),
      sum_by-cons (λ y. cond (p y) 1 0) (g x) rest,
      count_by-pairs p f g xs,
      sum_by-cons (λ y. cond (p (f y)) 1 0) x xs,
      sum_by-cons (λ y. cond (p (g y)) 1 0) x xs,
    )

-- ---- what holds of each
pub All-range : (P : ℕ → Type 0) (a n : ℕ) → ((k : ℕ) → a ≤ k → k < a + n → P k) → All P (range_with_len a n)
All-range P a n each k d less =
    let within : k < n = subst (λ m. k < m) (length-range_with_len a n) less in
    subst P (sym (get_or-range_with_len a n k d within)) (each (a + k) (omega arith) (omega arith))

pub All-reverse : {X : Type 0} (P : X → Type 0) (xs : List X) → All P xs → All P (reverse xs)
All-reverse P xs all k d less =
    let within : k < length xs = subst (λ m. k < m) (length-reverse xs) less in
    subst P (sym (get_or-reverse xs k d within)) (all (length xs - 1 - k) d (omega arith))

pub All-pairs : {X Y : Type 0} (P : Y → Type 0) (f g : X → Y) (xs : List X) → All (λ x. P (f x)) xs →
    All (λ x. P (g x)) xs → All P (flat_map (λ x. f x ∷ g x ∷ []) xs)
All-pairs P f g [] firsts seconds = All-nil P
All-pairs P f g (x ∷ xs) firsts seconds =
    let rest = flat_map (λ y. f y ∷ g y ∷ []) xs in
    All-cons P (f x) (g x ∷ rest) (All-head (λ y. P (f y)) x xs firsts)
    (All-cons P (g x) rest (All-head (λ y. P (g y)) x xs seconds)
    (All-pairs P f g xs (All-tail (λ y. P (f y)) x xs firsts) (All-tail (λ y. P (g y)) x xs seconds)))
