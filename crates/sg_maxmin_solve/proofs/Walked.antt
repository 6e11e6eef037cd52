-- One more use of a row.
use Rattle.std.proofs.Common.{◌≡◌, ℕ, zero, suc, ◌+◌, ◌-◌, ◌*◌, ◌<◌, ◌≤◌, ◌⊎◌, inl, inr, min, cond, eqb, eq-eqb, ne_eqb, Option, Some, List, [], ◌∷◌, ◌++◌, map, length, get_or, set, take, get_or-set_same, get_or-set_other, append_assoc, mul-le-mul_right, refl, sym, ap, subst, ◌∙◌, arith}
use Rattle.std.proofs.lemmas.List.{take_more}
use Rattle.std.proofs.lemmas.List.Sums.{sum_by-append, sum_by-cons}
use Rattle.sg_maxmin.specs.Chained.{times}
use Rattle.sg_maxmin.specs.Step.{IsLeast, least_with}
use Rattle.sg_maxmin.proofs.Listed.{eq_cases}
use Rattle.sg_maxmin.proofs.Least.{least_push}

-- ---- the least of a list, one more at a time
min_cases : (a b : ℕ) → (min a b ≤ a) × (min a b ≤ b) × ((min a b ≡ a) ⊎ (min a b ≡ b))
min_cases a b = grind arith

-- ---- how often a resource stands in a row
pub times_more : (c : ℕ) (row : List ℕ) (k : ℕ) → k < length row → times c (take (suc k) row) ≡ times c (take k row) + cond (eqb (get_or row k 0) c) 1 0
times_more c row k h = ap (λ n. times c (take n row)) (next k) ∙ ap (times c) (take_more row k 0 h) ∙ omega (arith, sum_by-append (λ d. cond (eqb d c) 1 0) (take k row) (get_or row k 0 ∷ []), sum_by-cons (λ d. cond (eqb d c) 1 0) (get_or row k 0) [])
  where
    next : (k : ℕ) → suc k ≡ k + 1
    next k = omega arith

times_le : (c : ℕ) (row : List ℕ) (k : ℕ) → times c (take k row) ≤ times c row
times_le c [] zero = omega arith
times_le c [] (suc k) = omega arith
times_le c (x ∷ row) zero = omega (arith, none c)
  where
    none : (c : ℕ) → times c [] ≡ 0
    none c = refl
times_le c (x ∷ row) (suc k) = omega (arith, sum_by-cons (λ d. cond (eqb d c) 1 0) x (take k row), sum_by-cons (λ d. cond (eqb d c) 1 0) x row, times_le c row k)

here : (row : List ℕ) (k r : ℕ) → k < length row → r ≡ get_or row k 0 → times r (take (suc k) row) ≡ times r (take k row) + 1
here row k r h is = times_more r row k h ∙ ap {B = ℕ} (λ b. times r (take k row) + cond b 1 0) (eq-eqb (get_or row k 0) r (sym is))

away : (row : List ℕ) (k r c : ℕ) → k < length row → r ≡ get_or row k 0 → (c ≡ r → ⊥) → times c (take (suc k) row) ≡ times c (take k row)
away row k r c h is ne = times_more c row k h ∙ ap {B = ℕ} (λ b. times c (take k row) + cond b 1 0) (ne_eqb (get_or row k 0) c (λ e. ne (sym e ∙ sym is))) ∙ plus_none (times c (take k row))
  where
    plus_none : (n : ℕ) → n + 0 ≡ n
    plus_none n = omega arith

-- the weight of the next use still fits
pub room_more : (row : List ℕ) (k r w : ℕ) → k < length row → r ≡ get_or row k 0 → times r (take k row) * w + w ≤ times r row * w
room_more row k r w h is =
    let more : times r (take k row) + 1 ≤ times r row = omega (arith, here row k r h is, times_le r row (suc k)) in
    omega (arith, mul-le-mul_right w more)

-- one more added, and one more taken off
pub add_more : (now old row : List ℕ) (k r w c : ℕ) → k < length row → r ≡ get_or row k 0 → r < length now → ((c : ℕ) → get_or now c 0 ≡ get_or old c 0 + times c (take k row) * w) → get_or (set now r (get_or now r 0 + w)) c 0 ≡ get_or old c 0 + times c (take (suc k) row) * w
add_more now old row k r w c h is in' inv =
    elim (eq_cases c r) [
      | inl e ↦ subst (λ c. get_or (set now r (get_or now r 0 + w)) c 0 ≡ get_or old c 0 + times c (take (suc k) row) * w) (sym e)
          (get_or-set_same now r (get_or now r 0 + w) 0 in' ∙ ap (λ n. n + w) (inv r) ∙ one (get_or old r 0) (times r (take k row)) w ∙ ap (λ n. get_or old r 0 + n * w) (sym (here row k r h is)))
      | inr ne ↦ get_or-set_other now r c (get_or now r 0 + w) 0 ne ∙ inv c ∙ ap (λ n. get_or old c 0 + n * w) (sym (away row k r c h is ne))
    ]
  where
    one : (a n w : ℕ) → a + n * w + w ≡ a + (n + 1) * w
    one a n w = omega arith

pub take_off : (now old row : List ℕ) (k r share c : ℕ) → k < length row → r ≡ get_or row k 0 → r < length now → ((c : ℕ) → get_or now c 0 ≡ get_or old c 0 - times c (take k row) * share) → get_or (set now r (get_or now r 0 - share)) c 0 ≡ get_or old c 0 - times c (take (suc k) row) * share
take_off now old row k r share c h is in' inv =
    elim (eq_cases c r) [
      | inl e ↦ subst (λ c. get_or (set now r (get_or now r 0 - share)) c 0 ≡ get_or old c 0 - times c (take (suc k) row) * share) (sym e)
          (get_or-set_same now r (get_or now r 0 - share) 0 in' ∙ ap (λ n. n - share) (inv r) ∙ twice (get_or old r 0) (times r (take k row)) share ∙ ap (λ n. get_or old r 0 - n * share) (sym (here row k r h is)))
      | inr ne ↦ get_or-set_other now r c (get_or now r 0 - share) 0 ne ∙ inv c ∙ ap (λ n. get_or old c 0 - n * share) (sym (away row k r c h is ne))
    ]
  where
    twice : (a n s : ℕ) → a - n * s - s ≡ a - (n + 1) * s
    twice a n s = omega arith

-- what limits a flow, with one more of its resources
pub limits_next : (least : Option ℕ) (first : List ℕ) (row : List ℕ) (level : ℕ → ℕ) (k r : ℕ) → k < length row → r ≡ get_or row k 0 → IsLeast least (first ++ map level (take k row)) →
    IsLeast (Some (least_with least (level r))) (first ++ map level (take (suc k) row))
limits_next least first row level k r h is l = subst (IsLeast (Some (least_with least (level r)))) (sym more) (least_push least (first ++ map level (take k row)) (level r) l)
  where
    map_end : (f : ℕ → ℕ) (xs : List ℕ) (x : ℕ) → map f (xs ++ x ∷ []) ≡ map f xs ++ f x ∷ []
    map_end f [] x = refl
    map_end f (y ∷ xs) x = ap (λ ys. f y ∷ ys) (map_end f xs x)

    next : (k : ℕ) → suc k ≡ k + 1
    next k = omega arith

    front : take (suc k) row ≡ take k row ++ r ∷ []
    front = ap (λ n. take n row) (next k) ∙ take_more row k 0 h ∙ ap (λ x. take k row ++ x ∷ []) (sym is)

    more : first ++ map level (take (suc k) row) ≡ (first ++ map level (take k row)) ++ level r ∷ []
    more = ap (λ xs. first ++ map level xs) front ∙ ap (λ xs. first ++ xs) (map_end level (take k row) r) ∙ sym (append_assoc first (map level (take k row)) (level r ∷ []))
