-- What is reached at all is reached in as many steps as there are flows.
use Rattle.std.proofs.Common.{◌≡◌, ℕ, zero, suc, ◌+◌, ◌-◌, ◌<◌, ◌≤◌, ◌⊎◌, inl, inr, Bool, true, false, cond, not, ◌||◌, ◌&&◌, true≢false, List, length, count_by, refl, sym, subst, ◌∙◌, arith}
use Rattle.std.specs.List.{list_any}
use Rattle.sg_maxmin.specs.Fill.{Flow, is_on}
use Rattle.sg_maxmin.proofs.Members.{In, list_any_in, list_any_back}
use Rattle.sg_maxmin.proofs.Sums.{sum_by_lt, le-sum_by}
use Rattle.std.proofs.lemmas.List.Sums.{count_by-le-length}
use Rattle.sg_lazy.specs.Touch.{touches, spread, reach}
use Rattle.sg_lazy.specs.Laws.{AllReached}
use Rattle.sg_maxmin.proofs.Listed.{bool_cases}

pub or_true : (x y : Bool) → (x || y) ≡ true → (x ≡ true) ⊎ (y ≡ true)
or_true true y e = inl refl
or_true false y e = inr e

or_left : (x y : Bool) → x ≡ true → (x || y) ≡ true
or_left x y e = rw e refl

or_right : (x y : Bool) → y ≡ true → (x || y) ≡ true
or_right true y e = refl
or_right false y e = e

pub both_true : (x y : Bool) → (x && y) ≡ true → (x ≡ true) × (y ≡ true)
both_true true y e = (refl, e)
both_true false y e = absurd (true≢false (sym e))

pub spread_keeps : (flows : List Flow) (r : ℕ → Bool) (c : ℕ) → r c ≡ true → spread flows r c ≡ true
unfolding spread
spread_keeps flows r c e = or_left (r c) (list_any (λ g. is_on c g && touches r g) flows) e

pub spread_along : (flows : List Flow) (r : ℕ → Bool) (c : ℕ) (g : Flow) → In g flows → is_on c g ≡ true → touches r g ≡ true → spread flows r c ≡ true
unfolding spread
spread_along flows r c g i on t = or_right (r c) (list_any (λ f. is_on c f && touches r f) flows) (list_any_in (λ f. is_on c f && touches r f) flows g i (rw (on, t) refl))

pub spread_cases : (flows : List Flow) (r : ℕ → Bool) (c : ℕ) → spread flows r c ≡ true → (r c ≡ true) ⊎ ((g : Flow) × In g flows × (is_on c g ≡ true) × (touches r g ≡ true))
unfolding spread
spread_cases flows r c e =
    elim (or_true (r c) (list_any (λ f. is_on c f && touches r f) flows) e) [
      | inl h ↦ inl h
      | inr h ↦
          let g = list_any_back (λ f. is_on c f && touches r f) flows h in
          let b = both_true (is_on c g.0) (touches r g.0) g.2 in
          inr (g.0, g.1, b.0, b.1)
    ]

any_mono : (p q : ℕ → Bool) (xs : List ℕ) → ((c : ℕ) → p c ≡ true → q c ≡ true) → list_any p xs ≡ true → list_any q xs ≡ true
any_mono p q xs h e = let r = list_any_back p xs e in list_any_in q xs r.0 r.1 (h r.0 r.2)

Stable : List Flow → (ℕ → Bool) → ℕ → Type 0
Stable flows first n = (c : ℕ) → reach (suc n) flows first c ≡ true → reach n flows first c ≡ true

reach_more : (flows : List Flow) (first : ℕ → Bool) (n c : ℕ) → reach n flows first c ≡ true → reach (suc n) flows first c ≡ true
unfolding reach
reach_more flows first n c e = spread_keeps flows (reach n flows first) c e

reach_add : (flows : List Flow) (first : ℕ → Bool) (d n c : ℕ) → reach n flows first c ≡ true → reach (n + d) flows first c ≡ true
reach_add flows first zero n c e = subst (λ k. reach k flows first c ≡ true) (plus_none n) e
  where
    plus_none : (m : ℕ) → m ≡ m + 0
    plus_none m = omega arith
reach_add flows first (suc d) n c e = subst (λ k. reach k flows first c ≡ true) (plus_suc n d) (reach_more flows first (n + d) c (reach_add flows first d n c e))
  where
    plus_suc : (m k : ℕ) → suc (m + k) ≡ m + suc k
    plus_suc m k = omega arith

-- if no flow is newly touched, nothing more is reached
stable_from : (flows : List Flow) (first : ℕ → Bool) (n : ℕ) → ((g : Flow) → In g flows → touches (reach (suc n) flows first) g ≡ true → touches (reach n flows first) g ≡ true) → Stable flows first (suc n)
unfolding Stable reach
stable_from flows first n h c e =
    elim (spread_cases flows (reach (suc n) flows first) c e) [
      | inl z ↦ z
      | inr r ↦ spread_along flows (reach n flows first) c r.0 r.1 r.2 (h r.0 r.1 r.3)
    ]

stable_next : (flows : List Flow) (first : ℕ → Bool) (n : ℕ) → Stable flows first n → Stable flows first (suc n)
unfolding Stable
stable_next flows first n h = stable_from flows first n (λ g i e. any_mono (reach (suc n) flows first) (reach n flows first) g.uses h e)

stable_all : (flows : List Flow) (first : ℕ → Bool) (d n : ℕ) → Stable flows first n → Stable flows first (n + d)
stable_all flows first zero n h = subst (λ k. Stable flows first k) (plus_none n) h
  where
    plus_none : (m : ℕ) → m ≡ m + 0
    plus_none m = omega arith
stable_all flows first (suc d) n h = subst (λ k. Stable flows first k) (plus_suc n d) (stable_next flows first (n + d) (stable_all flows first d n h))
  where
    plus_suc : (m k : ℕ) → suc (m + k) ≡ m + suc k
    plus_suc m k = omega arith

stable_use : (flows : List Flow) (first : ℕ → Bool) (n c : ℕ) → Stable flows first n → reach (suc n) flows first c ≡ true → reach n flows first c ≡ true
unfolding Stable
stable_use flows first n c h e = h c e

back_to : (flows : List Flow) (first : ℕ → Bool) (d n c : ℕ) → Stable flows first n → reach (n + d) flows first c ≡ true → reach n flows first c ≡ true
back_to flows first zero n c h e = subst (λ k. reach k flows first c ≡ true) (plus_none n) e
  where
    plus_none : (m : ℕ) → m + 0 ≡ m
    plus_none m = omega arith
back_to flows first (suc d) n c h e = back_to flows first d n c h (stable_use flows first (n + d) c (stable_all flows first d n h) (subst (λ k. reach k flows first c ≡ true) (plus_suc n d) e))
  where
    plus_suc : (m k : ℕ) → m + suc k ≡ suc (m + k)
    plus_suc m k = omega arith

touched_count : List Flow → (ℕ → Bool) → ℕ → ℕ
touched_count flows first n = count_by (λ g. touches (reach n flows first) g) flows

one_le : (p q : Bool) → (p ≡ true → q ≡ true) → cond p 1 0 ≤ cond q 1 0
one_le true q h = rw (h refl) (omega arith)
one_le false q h = omega arith

-- a round touches one more flow, or the next adds nothing
round_cases : (flows : List Flow) (first : ℕ → Bool) (n : ℕ) → Stable flows first (suc n) ⊎ (touched_count flows first n < touched_count flows first (suc n))
unfolding touched_count
round_cases flows first n =
    let old = λ (g : Flow). touches (reach n flows first) g in
    let new = λ (g : Flow). touches (reach (suc n) flows first) g in
    let more = λ (g : Flow). any_mono (reach n flows first) (reach (suc n) flows first) g.uses (reach_more flows first n) in
    elim (bool_cases (list_any (λ g. new g && not (old g)) flows)) [
      | inl some ↦
          let r = list_any_back (λ g. new g && not (old g)) flows some in
          let b = both_true (new r.0) (not (old r.0)) r.2 in
          inr (sum_by_lt (λ g. cond (old g) 1 0) (λ g. cond (new g) 1 0) flows r.0 r.1 (one_more (old r.0) (new r.0) b.0 b.1) (λ g i. one_le (old g) (new g) (more g)))
      | inr none ↦ inl (stable_from flows first n (λ g i e. elim (bool_cases (old g)) [
        | inl t ↦ t
        | inr f ↦ absurd (true≢false (sym (list_any_in (λ x. new x && not (old x)) flows g i (rw (e, f) refl)) ∙ none))
      ]))
    ]
  where
    one_more : (o m : Bool) → m ≡ true → not o ≡ true → cond o 1 0 < cond m 1 0
    one_more true m e k = absurd (true≢false (sym k))
    one_more false m e k = rw e (omega arith)

rounds : (flows : List Flow) (first : ℕ → Bool) (n : ℕ) → ((m : ℕ) × (m ≤ n) × Stable flows first m) ⊎ (n + touched_count flows first 0 ≤ touched_count flows first n)
rounds flows first zero = inr (omega arith)
rounds flows first (suc n) =
    elim (rounds flows first n) [
      | inl r ↦ inl (r.0, omega (arith, r.1), r.2)
      | inr h ↦ elim (round_cases flows first n) [ inl s ↦ inl (suc n, omega arith, s) | inr lt ↦ inr (omega (arith, h, lt)) ]
    ]

none_touched : (flows : List Flow) (first : ℕ → Bool) → touched_count flows first 0 ≡ 0 → Stable flows first 0
unfolding Stable reach touched_count
none_touched flows first e c h =
    elim (spread_cases flows first c h) [
      | inl z ↦ z
      | inr r ↦
          let one : ◌≡◌ {A = ℕ} (cond (touches first r.0) 1 0) 1 = rw r.3 refl in
          absurd (omega (arith, e, one, le-sum_by (λ g. cond (touches first g) 1 0) flows r.0 r.1))
    ]

some_stable : (flows : List Flow) (first : ℕ → Bool) → (m : ℕ) × (m ≤ length flows) × Stable flows first m
unfolding touched_count
some_stable flows first =
    elim (rounds flows first (length flows)) [
      | inl r ↦ r
      | inr h ↦ (0, omega arith, none_touched flows first (omega (arith, h, count_by-le-length (λ g. touches (reach (length flows) flows first) g) flows)))
    ]

pub all_reached_lem : AllReached
all_reached_lem flows first n c e =
    let s = some_stable flows first in
    let m = s.0 in
    let at : reach m flows first c ≡ true = elim (le_cases n m) [
      | inl le ↦ subst (λ k. reach k flows first c ≡ true) (fits n m le) (reach_add flows first (m - n) n c e)
      | inr gt ↦ back_to flows first (n - m) m c s.2 (subst (λ k. reach k flows first c ≡ true) (sym (fits m n (omega (arith, gt)))) e)
    ] in
    subst (λ k. reach k flows first c ≡ true) (fits m (length flows) s.1) (reach_add flows first (length flows - m) m c at)
  where
    le_cases : (a b : ℕ) → (a ≤ b) ⊎ (b < a)
    le_cases a b = grind arith

    fits : (a b : ℕ) → a ≤ b → a + (b - a) ≡ b
    fits a b h = omega arith
