-- One more use of a flow whose part in the demand changes.
use Rattle.std.proofs.Common.{◌≡◌, ℕ, zero, suc, ◌+◌, ◌-◌, ◌*◌, ◌^◌, ◌<◌, ◌≤◌, inl, inr, Bool, true, false, cond, eqb, eq-eqb, ne_eqb, List, [], ◌∷◌, length, get_or, set, take, get_or-set_same, get_or-set_other, mul-le-mul_right, refl, sym, ap, subst, ◌∙◌, arith}
use Rattle.std.proofs.lemmas.List.{take_more}
use Rattle.std.proofs.lemmas.List.Sums.{sum_by-append, sum_by-cons}
use Rattle.sg_maxmin.specs.Chained.{times}
use Rattle.sg_maxmin.proofs.Listed.{eq_cases, times-cons}

-- ---- how often a resource stands in a row
times_more : (c : ℕ) (row : List ℕ) (k : ℕ) → k < length row → times c (take (suc k) row) ≡ times c (take k row) + cond (eqb (get_or row k 0) c) 1 0
times_more c row k h = ap (λ n. times c (take n row)) (next k) ∙ ap (times c) (take_more row k 0 h) ∙ omega (arith, sum_by-append (λ d. cond (eqb d c) 1 0) (take k row) (get_or row k 0 ∷ []), sum_by-cons (λ d. cond (eqb d c) 1 0) (get_or row k 0) [])
  where
    next : (k : ℕ) → suc k ≡ k + 1
    next k = omega arith

times_le : (c : ℕ) (row : List ℕ) (k : ℕ) → times c (take k row) ≤ times c row
times_le c [] zero = omega arith
times_le c [] (suc k) = omega arith
times_le c (x ∷ row) zero = omega (arith, none c)
  where
    none : (c : ℕ) → times c [] ≡ 0
    none c = refl
times_le c (x ∷ row) (suc k) = omega (arith, times-cons c x (take k row), times-cons c x row, times_le c row k)

here : (row : List ℕ) (k r : ℕ) → k < length row → r ≡ get_or row k 0 → times r (take (suc k) row) ≡ times r (take k row) + 1
here row k r h is = times_more r row k h ∙ ap {B = ℕ} (λ b. times r (take k row) + cond b 1 0) (eq-eqb (get_or row k 0) r (sym is))

away : (row : List ℕ) (k r c : ℕ) → k < length row → r ≡ get_or row k 0 → (c ≡ r → ⊥) → times c (take (suc k) row) ≡ times c (take k row)
away row k r c h is ne = times_more c row k h ∙ ap {B = ℕ} (λ b. times c (take k row) + cond b 1 0) (ne_eqb (get_or row k 0) c (λ e. ne (sym e ∙ sym is))) ∙ plus_none (times c (take k row))
  where
    plus_none : (n : ℕ) → n + 0 ≡ n
    plus_none n = omega arith

-- as often as it stands among the first ones and once more is no more often than in all
once_more : (row : List ℕ) (k r w : ℕ) → k < length row → r ≡ get_or row k 0 → times r (take k row) * w + w ≤ times r row * w
once_more row k r w h is =
    let more : times r (take k row) + 1 ≤ times r row = omega (arith, here row k r h is, times_le r row (suc k)) in
    omega (arith, mul-le-mul_right w more)

-- ---- at each resource of the first ones another part stands for what stood there before
module _ (before after : ℕ) (old now row : List ℕ) (k r : ℕ) (less : k < length row) (is : r ≡ get_or row k 0) (shifts : (c : ℕ) → get_or now c 0 + times c (take k row) * before ≡ get_or old c 0 + times c (take k row) * after) where
  pub shift_some : ((c : ℕ) → times c row * before ≤ get_or old c 0) → before ≤ get_or now r 0
  shift_some some = omega (arith, shifts r, some r, once_more row k r before less is)

  pub shift_fits : ((c : ℕ) → get_or old c 0 + times c row * after < 2 ^ 128) → get_or now r 0 + after < 2 ^ 128 + before
  shift_fits fits = omega (arith, shifts r, fits r, once_more row k r after less is)

  pub shift_more : before ≤ get_or now r 0 → r < length now → (c : ℕ) → get_or (set now r (get_or now r 0 - before + after)) c 0 + times c (take (suc k) row) * before ≡ get_or old c 0 + times c (take (suc k) row) * after
  shift_more some below c = elim (eq_cases c r) [
    | inl e ↦ subst (λ c. get_or (set now r (get_or now r 0 - before + after)) c 0 + times c (take (suc k) row) * before ≡ get_or old c 0 + times c (take (suc k) row) * after) (sym e)
        (ap (λ n. n + times r (take (suc k) row) * before) (get_or-set_same now r (get_or now r 0 - before + after) 0 below) ∙ ap (λ n. get_or now r 0 - before + after + n * before) (here row k r less is)
        ∙ one (get_or now r 0) (get_or old r 0) (times r (take k row)) before after some (shifts r) ∙ ap (λ n. get_or old r 0 + n * after) (sym (here row k r less is)))
    | inr ne ↦ ap (λ n. n + times c (take (suc k) row) * before) (get_or-set_other now r c (get_or now r 0 - before + after) 0 ne) ∙ ap (λ n. get_or now c 0 + n * before) (away row k r c less is ne) ∙ shifts c ∙ ap (λ n. get_or old c 0 + n * after) (sym (away row k r c less is ne))
  ]
    where
      more_times : (n m : ℕ) → (n + 1) * m ≡ n * m + m
      more_times n m = grind arith

      one : (x o n b a : ℕ) → b ≤ x → x + n * b ≡ o + n * a → x - b + a + (n + 1) * b ≡ o + (n + 1) * a
      one x o n b a some e = omega (arith, some, e, more_times n b, more_times n a)

-- ---- at each of the first ones a user less is counted, or nothing changes
module _ (b : Bool) (old now row : List ℕ) (k r : ℕ) (less : k < length row) (is : r ≡ get_or row k 0) (below : r < length now) (so_far : (c : ℕ) → get_or now c 0 ≤ get_or old c 0 - cond b (times c (take k row)) 0) where
  one_less : (b : Bool) (n o t : ℕ) → n ≤ o - cond b t 0 → n - cond b 1 0 ≤ o - cond b (t + 1) 0
  one_less true n o t le = omega (arith, le)
  one_less false n o t le = omega (arith, le)

  pub less_more : (c : ℕ) → get_or (set now r (get_or now r 0 - cond b 1 0)) c 0 ≤ get_or old c 0 - cond b (times c (take (suc k) row)) 0
  less_more c = elim (eq_cases c r) [
    | inl e ↦ subst (λ c. get_or (set now r (get_or now r 0 - cond b 1 0)) c 0 ≤ get_or old c 0 - cond b (times c (take (suc k) row)) 0) (sym e)
        (subst (λ n. n ≤ get_or old r 0 - cond b (times r (take (suc k) row)) 0) (sym (get_or-set_same now r (get_or now r 0 - cond b 1 0) 0 below))
        (subst (λ t. get_or now r 0 - cond b 1 0 ≤ get_or old r 0 - cond b t 0) (sym (here row k r less is)) (one_less b (get_or now r 0) (get_or old r 0) (times r (take k row)) (so_far r))))
    | inr ne ↦ subst (λ n. n ≤ get_or old c 0 - cond b (times c (take (suc k) row)) 0) (sym (get_or-set_other now r c (get_or now r 0 - cond b 1 0) 0 ne))
        (subst (λ t. get_or now c 0 ≤ get_or old c 0 - cond b t 0) (sym (away row k r c less is ne)) (so_far c))
  ]

-- and one more
module _ (old now row : List ℕ) (k r v : ℕ) (less : k < length row) (is : r ≡ get_or row k 0) (below : r < length now) (few : v ≤ get_or now r 0 + 1) (so_far : (c : ℕ) → get_or now c 0 ≤ get_or old c 0 + times c (take k row)) where
  pub count_more : (c : ℕ) → get_or (set now r v) c 0 ≤ get_or old c 0 + times c (take (suc k) row)
  count_more c = elim (eq_cases c r) [
    | inl e ↦ subst (λ c. get_or (set now r v) c 0 ≤ get_or old c 0 + times c (take (suc k) row)) (sym e) (omega (arith, get_or-set_same now r v 0 below, here row k r less is, few, so_far r))
    | inr ne ↦ omega (arith, get_or-set_other now r c v 0 ne, away row k r c less is ne, so_far c)
  ]
