-- One sum over two rows, taken either way.
use Rattle.std.proofs.Common.{◌≡◌, ◌≢◌, ℕ, suc, ◌+◌, ◌<◌, ◌≤◌, true, false, cond, ◌||◌, eqb, eq-eqb, ne_eqb, eqb-true, true≢false, List, [], ◌∷◌, length, get_or, sum_by, AllPairs, refl, sym, ap, ◌∙◌, arith}
use Rattle.std.proofs.lemmas.List.Sums.{sum_by-cons}
use Rattle.sg_base.specs.MarkSet.{is_in}
use Rattle.sg_maxmin_solve.specs.Component.{AreIn}
use Rattle.sg_maxmin.specs.Chained.{times}
use Rattle.sg_maxmin_solve.specs.Counts.{CountsTwice}
use Rattle.sg_maxmin.proofs.Listed.{in_at}

-- one more element
times-cons : (number x : ℕ) (xs : List ℕ) → times number (x ∷ xs) ≡ cond (eqb x number) 1 0 + times number xs
times-cons number x xs = sum_by-cons (λ other. cond (eqb other number) 1 0) x xs

sum-add : (f h : ℕ → ℕ) (xs : List ℕ) → sum_by (λ n. f n + h n) xs ≡ sum_by f xs + sum_by h xs
sum-add f h [] = refl
sum-add f h (x ∷ xs) = omega (arith, sum_by-cons (λ n. f n + h n) x xs, sum_by-cons f x xs, sum_by-cons h x xs, sum-add f h xs)

sum-zero : (xs : List ℕ) → sum_by (λ n. 0) xs ≡ 0
sum-zero [] = refl
sum-zero (x ∷ xs) = omega (arith, sum_by-cons (λ n. 0) x xs, sum-zero xs)

sum-le : (f h : ℕ → ℕ) (xs : List ℕ) → ((i : ℕ) → i < length xs → f (get_or xs i 0) ≤ h (get_or xs i 0)) → sum_by f xs ≤ sum_by h xs
sum-le f h [] e = omega arith
sum-le f h (x ∷ xs) e = omega (arith, sum_by-cons f x xs, sum_by-cons h x xs, e 0 (omega arith), sum-le f h xs (λ i k. e (suc i) (omega arith)))

sum-same : (f h : ℕ → ℕ) (xs : List ℕ) → ((n : ℕ) → f n ≡ h n) → sum_by f xs ≡ sum_by h xs
sum-same f h [] e = refl
sum-same f h (x ∷ xs) e = omega (arith, sum_by-cons f x xs, sum_by-cons h x xs, e x, sum-same f h xs e)

either_way : (g : ℕ → ℕ → ℕ) (xs ys : List ℕ) → sum_by (λ x. sum_by (g x) ys) xs ≡ sum_by (λ y. sum_by (λ x. g x y) xs) ys
either_way g [] ys = sym (sum-zero ys)
either_way g (x ∷ xs) ys =
    sum_by-cons (λ x. sum_by (g x) ys) x xs ∙ ap (λ n. sum_by (g x) ys + n) (either_way g xs ys) ∙ sym (sum-add (g x) (λ y. sum_by (λ x. g x y) xs) ys)
    ∙ sum-same (λ y. g x y + sum_by (λ x. g x y) xs) (λ y. sum_by (λ x. g x y) (x ∷ xs)) ys (λ y. sym (sum_by-cons (λ x. g x y) x xs))

distinct_tail : (n : ℕ) (ns : List ℕ) → AllPairs (λ a b. a ≢ b) (n ∷ ns) → AllPairs (λ a b. a ≢ b) ns
distinct_tail n ns d = λ i j e l k. d (suc i) (suc j) e (omega arith) (omega arith)

distinct_head : (n : ℕ) (ns : List ℕ) → AllPairs (λ a b. a ≢ b) (n ∷ ns) → (i : ℕ) → i < length ns → n ≢ get_or ns i 0
distinct_head n ns d = λ i h. d 0 (suc i) 0 (omega arith) (omega arith)

no_one : (n x : ℕ) (ns : List ℕ) → ((i : ℕ) → i < length ns → n ≢ get_or ns i 0) → x ≡ n → sum_by (λ n. cond (eqb x n) 1 0) ns ≡ 0
no_one n x [] a e = refl
no_one n x (m ∷ ns) a e = omega (arith, sum_by-cons (λ n. cond (eqb x n) 1 0) m ns, ap (λ b. cond {A = ℕ} b 1 0) (ne_eqb x m (λ q. a 0 (omega arith) (sym e ∙ q))), no_one n x ns (λ i h. a (suc i) (omega arith)) e)

-- among distinct numbers one at most is this one
at_most_one : (x : ℕ) (ns : List ℕ) → AllPairs (λ a b. a ≢ b) ns → sum_by (λ n. cond (eqb x n) 1 0) ns ≤ 1
at_most_one x [] d = omega arith
at_most_one x (n ∷ ns) d = (elim (eqb x n) as (λ b. eqb x n ≡ b → sum_by (λ n. cond (eqb x n) 1 0) (n ∷ ns) ≤ 1) [
  | true ↦ λ e. omega (arith, sum_by-cons (λ n. cond (eqb x n) 1 0) n ns, ap (λ b. cond {A = ℕ} b 1 0) e, no_one n x ns (distinct_head n ns d) (eqb-true x n e))
  | false ↦ λ e. omega (arith, sum_by-cons (λ n. cond (eqb x n) 1 0) n ns, ap (λ b. cond {A = ℕ} b 1 0) e, at_most_one x ns (distinct_tail n ns d))
]) refl

at_least_one : (x : ℕ) (ns : List ℕ) → is_in x ns ≡ true → 1 ≤ sum_by (λ n. cond (eqb x n) 1 0) ns
at_least_one x [] h = absurd (true≢false (sym h))
at_least_one x (n ∷ ns) h = (elim (eqb n x) as (λ b. eqb n x ≡ b → (b || is_in x ns) ≡ true → 1 ≤ sum_by (λ n. cond (eqb x n) 1 0) (n ∷ ns)) [
  | true ↦ λ e k. omega (arith, sum_by-cons (λ n. cond (eqb x n) 1 0) n ns, ap (λ b. cond {A = ℕ} b 1 0) (eq-eqb x n (sym (eqb-true n x e))))
  | false ↦ λ e k. omega (arith, sum_by-cons (λ n. cond (eqb x n) 1 0) n ns, at_least_one x ns k)
]) refl h

-- distinct numbers stand in a list no more often than it is long
few : (ns xs : List ℕ) → AllPairs (λ a b. a ≢ b) ns → sum_by (λ n. times n xs) ns ≤ length xs
few ns [] d = omega (arith, sum-zero ns)
few ns (x ∷ xs) d =
    omega (arith, sum-same (λ n. times n (x ∷ xs)) (λ n. cond (eqb x n) 1 0 + times n xs) ns (λ n. times-cons n x xs), sum-add (λ n. cond (eqb x n) 1 0) (λ n. times n xs) ns, at_most_one x ns d, few ns xs d)

-- numbers among which all of a list's are stand in it no less often
many : (ns xs : List ℕ) → AreIn xs ns → length xs ≤ sum_by (λ n. times n xs) ns
many ns [] h = omega arith
many ns (x ∷ xs) h =
    omega (arith, sum-same (λ n. times n (x ∷ xs)) (λ n. cond (eqb x n) 1 0 + times n xs) ns (λ n. times-cons n x xs), sum-add (λ n. cond (eqb x n) 1 0) (λ n. times n xs) ns, at_least_one x ns (h 0 (omega arith)), many ns xs (λ i k. h (suc i) (omega arith)))

pub counts_twice_lem : CountsTwice
counts_twice_lem flows users touched reached both once covers =
    let inner = sum-le (λ c. length (users c)) (λ c. sum_by (λ f. times f (users c)) touched) reached (λ i h. many touched (users (get_or reached i 0)) (covers (get_or reached i 0) (in_at (get_or reached i 0) reached i h refl))) in
    let turned = sum-same (λ c. sum_by (λ f. times f (users c)) touched) (λ c. sum_by (λ f. times c (flows f)) touched) reached (λ c. sum-same (λ f. times f (users c)) (λ f. times c (flows f)) touched (λ f. both f c)) in
    let swapped = either_way (λ c f. times c (flows f)) reached touched in
    let outer = sum-le (λ f. sum_by (λ c. times c (flows f)) reached) (λ f. length (flows f)) touched (λ i h. few reached (flows (get_or touched i 0)) once) in
    omega (arith, inner, turned, swapped, outer)
