-- Sums over numbers in whatever order, by how often each is there.
use Rattle.std.proofs.Common.{◌≡◌, ℕ, zero, suc, ◌+◌, ◌*◌, ◌==◌, ◌<◌, Bool, true, false, cond, All, List, [], ◌∷◌, length, get_or, sum_by, refl, sym, ap, ap₂, ◌∙◌, arith}
use Rattle.std.proofs.lemmas.List.Sums.{sum_by-cons}
use Rattle.sg_maxmin.specs.Chained.{times}

-- the sum over all numbers below this one
upto : ℕ → (ℕ → ℕ) → ℕ
upto zero f = 0
upto (suc n) f = f 0 + upto n (λ i. f (suc i))

upto_same : (n : ℕ) (f g : ℕ → ℕ) → ((i : ℕ) → i < n → f i ≡ g i) → upto n f ≡ upto n g
unfolding upto
upto_same zero f g same = refl
upto_same (suc n) f g same = ap₂ (λ a b. a + b) (same 0 (omega arith)) (upto_same n (λ i. f (suc i)) (λ i. g (suc i)) (λ i less. same (suc i) (omega (arith, less))))

upto_none : (n : ℕ) → upto n (λ i. 0) ≡ 0
unfolding upto
upto_none zero = refl
upto_none (suc n) = omega (arith, upto_none n)

upto_add : (n : ℕ) (f g : ℕ → ℕ) → upto n (λ i. f i + g i) ≡ upto n f + upto n g
unfolding upto
upto_add zero f g = refl
upto_add (suc n) f g = omega (arith, upto_add n (λ i. f (suc i)) (λ i. g (suc i)))

once : Bool → ℕ → ℕ
once b n = cond b n 0

suc_eqb : (y i : ℕ) → (suc y == suc i) ≡ (y == i)
suc_eqb y i = grind arith

suc_not : (i : ℕ) → (zero == suc i) ≡ false
suc_not i = grind arith

not_suc : (y : ℕ) → (suc y == zero) ≡ false
not_suc y = grind arith

-- one number alone
upto_one : (n y : ℕ) (w : ℕ → ℕ) → y < n → upto n (λ i. once (y == i) (w i)) ≡ w y
unfolding upto once
upto_one zero y w less = absurd (omega (arith, less))
upto_one (suc n) zero w less =
    let rest : upto n (λ i. once (zero == suc i) (w (suc i))) ≡ 0 = upto_same n (λ i. once (zero == suc i) (w (suc i))) (λ i. 0) (λ i in_range. ap (λ b. cond b (w (suc i)) 0) (suc_not i)) ∙ upto_none n in
    omega (arith, rest)
upto_one (suc n) (suc y) w less =
    let rest : upto n (λ i. once (suc y == suc i) (w (suc i))) ≡ w (suc y) =
    upto_same n (λ i. once (suc y == suc i) (w (suc i))) (λ i. once (y == i) (w (suc i))) (λ i in_range. ap (λ b. cond b (w (suc i)) 0) (suc_eqb y i))
    ∙ upto_one n y (λ i. w (suc i)) (omega (arith, less)) in
    let first : once (suc y == zero) (w 0) ≡ 0 = ap (λ b. cond b (w 0) 0) (not_suc y) in
    omega (arith, rest, first)

one_more : (i y : ℕ) (ys : List ℕ) (w : ℕ) → times i (y ∷ ys) * w ≡ once (y == i) w + times i ys * w
unfolding once
one_more i y ys w = ap (λ n. n * w) (sum_by-cons (λ other. cond (other == i) 1 0) y ys) ∙ go (y == i) (times i ys)
  where
    go : (b : Bool) (t : ℕ) → (cond b 1 0 + t) * w ≡ cond b w 0 + t * w
    go true t = omega arith
    go false t = omega arith

-- a sum by how often each number is there
times_sum : (n : ℕ) (w : ℕ → ℕ) (ys : List ℕ) → All (λ y. y < n) ys → sum_by w ys ≡ upto n (λ i. times i ys * w i)
times_sum n w [] below = sym (upto_same n (λ i. 0 * w i) (λ i. 0) (λ i less. omega arith) ∙ upto_none n)
times_sum n w (y ∷ ys) below =
    let rest = times_sum n w ys (λ k d within. below (suc k) d (omega (arith, within))) in
    let first = upto_one n y w (below 0 0 (omega arith)) in
    let all : upto n (λ i. times i (y ∷ ys) * w i) ≡ upto n (λ i. once (y == i) (w i)) + upto n (λ i. times i ys * w i) =
    upto_same n (λ i. times i (y ∷ ys) * w i) (λ i. once (y == i) (w i) + times i ys * w i) (λ i less. one_more i y ys (w i))
    ∙ upto_add n (λ i. once (y == i) (w i)) (λ i. times i ys * w i) in
    omega (arith, sum_by-cons w y ys, rest, first, all)

places_sum : {X : Type 0} (f : X → ℕ) (xs : List X) (d : X) → upto (length xs) (λ i. f (get_or xs i d)) ≡ sum_by f xs
unfolding upto
places_sum f [] d = refl
places_sum f (x ∷ xs) d = omega (arith, sum_by-cons f x xs, places_sum f xs d)

-- a sum over numbers is one over places, if as much stands at each place as its number adds
pub sum_by_places : {X : Type 0} (w : ℕ → ℕ) (f : X → ℕ) (ys : List ℕ) (xs : List X) (d : X) → All (λ y. y < length xs) ys → ((i : ℕ) → times i ys * w i ≡ f (get_or xs i d)) → sum_by w ys ≡ sum_by f xs
sum_by_places w f ys xs d below same = times_sum (length xs) w ys below ∙ upto_same (length xs) (λ i. times i ys * w i) (λ i. f (get_or xs i d)) (λ i less. same i) ∙ places_sum f xs d
