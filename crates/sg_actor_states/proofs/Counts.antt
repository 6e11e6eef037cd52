-- Counts of the elements that meet a test.
use Rattle.std.proofs.Common.{◌≡◌, ℕ, zero, suc, ◌+◌, ◌*◌, ◌<◌, ◌≤◌, ◌==◌, Bool, true, false, cond, get_or, set, replicate, ◌&&◌, ◌||◌, nat_lt, List, [], ◌∷◌, length, count_by, refl, ap, ◌∙◌, arith}
use Rattle.std.specs.List.{list_all, list_any}
use Rattle.std.proofs.lemmas.List.Folds.{sum_by-replicate}
use Rattle.std.proofs.lemmas.List.Sums.{sum_by-cons, sum_by-set, get_or-le-sum_by}

pub count-cons : {X : Type 0} (p : X → Bool) (x : X) (xs : List X) → count_by p (x ∷ xs) ≡ cond (p x) 1 0 + count_by p xs
count-cons p x xs = sum_by-cons (λ y. cond (p y) 1 0) x xs

pub count_le : {X : Type 0} (p : X → Bool) (xs : List X) → count_by p xs ≤ length xs
count_le p [] = omega arith
count_le p (x ∷ xs) = cases (p x) (count-cons p x xs) (count_le p xs)
  where
    cases : (b : Bool) → count_by p (x ∷ xs) ≡ cond b 1 0 + count_by p xs → count_by p xs ≤ length xs → count_by p (x ∷ xs) ≤ suc (length xs)
    cases true e h = omega (arith, e, h)
    cases false e h = omega (arith, e, h)

alike : (a b n : ℕ) → a ≡ 1 + b → (a == suc n) ≡ (b == n)
alike a b n e = grind (arith, e)

less : (a n : ℕ) → a ≤ n → (a == suc n) ≡ false
less a n h = grind (arith, h)

pub count_all : {X : Type 0} (p : X → Bool) (xs : List X) → (count_by p xs == length xs) ≡ list_all p xs
count_all p [] = refl
count_all p (x ∷ xs) = cases (p x) (count-cons p x xs) (count_all p xs)
  where
    cases : (b : Bool) → count_by p (x ∷ xs) ≡ cond b 1 0 + count_by p xs → (count_by p xs == length xs) ≡ list_all p xs → (count_by p (x ∷ xs) == suc (length xs)) ≡ (b && list_all p xs)
    cases true e h = alike (count_by p (x ∷ xs)) (count_by p xs) (length xs) e ∙ h
    cases false e h = less (count_by p (x ∷ xs)) (length xs) (omega (arith, e, count_le p xs))

some : (a b : ℕ) → a ≡ 1 + b → nat_lt 0 a ≡ true
some a b e = grind (arith, e)

pub count_any : {X : Type 0} (p : X → Bool) (xs : List X) → nat_lt 0 (count_by p xs) ≡ list_any p xs
count_any p [] = refl
count_any p (x ∷ xs) = cases (p x) (count-cons p x xs) (count_any p xs)
  where
    cases : (b : Bool) → count_by p (x ∷ xs) ≡ cond b 1 0 + count_by p xs → nat_lt 0 (count_by p xs) ≡ list_any p xs → nat_lt 0 (count_by p (x ∷ xs)) ≡ (b || list_any p xs)
    cases true e h = some (count_by p (x ∷ xs)) (count_by p xs) e
    cases false e h =
        let same : count_by p (x ∷ xs) ≡ count_by p xs = omega (arith, e) in
        ap (nat_lt 0) same ∙ h

-- not all are counted, if one doesn't pass
pub counted_less : {X : Type 0} (p : X → Bool) (xs : List X) (i : ℕ) (d : X) → i < length xs → p (get_or xs i d) ≡ false → count_by p xs < length xs
counted_less p [] i d within isnt = absurd (omega (arith, within))
counted_less p (x ∷ xs) zero d within isnt = let none : ◌≡◌ {A = ℕ} (cond (p x) 1 0) 0 = ap (λ b. cond b 1 0) isnt in omega (arith, count-cons p x xs, none, count_le p xs)
counted_less p (x ∷ xs) (suc i) d within isnt = cases (p x) (count-cons p x xs) (counted_less p xs i d (omega (arith, within)) isnt)
  where
    cases : (b : Bool) → count_by p (x ∷ xs) ≡ cond b 1 0 + count_by p xs → count_by p xs < length xs → count_by p (x ∷ xs) < suc (length xs)
    cases true e h = omega (arith, e, h)
    cases false e h = omega (arith, e, h)

-- one is counted, if one passes
pub counted_one : {X : Type 0} (p : X → Bool) (xs : List X) (i : ℕ) (d : X) → i < length xs → p (get_or xs i d) ≡ true → 1 ≤ count_by p xs
counted_one p xs i d within is =
    let one : ◌≡◌ {A = ℕ} (cond (p (get_or xs i d)) 1 0) 1 = ap (λ b. cond b 1 0) is in
    omega (arith, one, get_or-le-sum_by (λ x. cond (p x) 1 0) xs i d within)

-- as one element becomes another
pub count_set : {X : Type 0} (p : X → Bool) (xs : List X) (i : ℕ) (y d : X) → i < length xs → count_by p (set xs i y) + cond (p (get_or xs i d)) 1 0 ≡ count_by p xs + cond (p y) 1 0
count_set p xs i y d within = sum_by-set (λ x. cond (p x) 1 0) xs i y d within

pub count_replicate : {X : Type 0} (p : X → Bool) (n : ℕ) (x : X) → count_by p (replicate n x) ≡ n * cond (p x) 1 0
count_replicate p n x = sum_by-replicate (λ y. cond (p y) 1 0) n x
