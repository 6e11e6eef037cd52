-- Members stay as more come.
use Rattle.std.proofs.Common.{◌≡◌, ℕ, zero, suc, ◌+◌, ◌<◌, ◌≤◌, ◌⊎◌, inl, inr, Bool, true, false, cond, ◌||◌, eqb, List, [], ◌∷◌, ◌++◌, length, get_or, take, sum_by, length-append, length-take, refl, sym, ap, ◌∙◌, arith}
use Rattle.std.proofs.lemmas.List.{get_or_append_left, ext_get_or, take_more}
use Rattle.std.proofs.Math.Seq.{get_or-take}
use Rattle.std.proofs.lemmas.List.Sums.{sum_by-append, sum_by-cons}
use Rattle.sg_base.specs.MarkSet.{is_in, with_mark}
use Rattle.sg_maxmin_solve.specs.Component.{Grows, AreIn, lengths, AllPass}
use Rattle.sg_maxmin.proofs.Listed.{at_in, in_at}

pub grows_same : (xs : List ℕ) → Grows xs xs
grows_same xs = record { longer = omega arith; same = λ i h. refl }

pub grows_on : (xs ys zs : List ℕ) → Grows xs ys → Grows ys zs → Grows xs zs
grows_on xs ys zs g h = record { longer = omega (arith, g.longer, h.longer); same = λ i k. h.same i (omega (arith, k, g.longer)) ∙ g.same i k }

grows_end : (xs ys : List ℕ) → Grows xs (xs ++ ys)
grows_end xs ys = record { longer = omega (arith, length-append xs ys); same = λ i h. get_or_append_left xs ys 0 i h }

pub grows_mark : (number : ℕ) (xs : List ℕ) → Grows xs (with_mark number xs)
grows_mark number xs = elim (is_in number xs) as (λ b. Grows xs (cond b xs (xs ++ number ∷ []))) [ true ↦ grows_same xs | false ↦ grows_end xs (number ∷ []) ]

pub stays : (number : ℕ) (xs ys : List ℕ) → Grows xs ys → is_in number xs ≡ true → is_in number ys ≡ true
stays number xs ys g h = let r = at_in number xs h in in_at number ys r.0 (omega (arith, r.1, g.longer)) (g.same r.0 r.1 ∙ r.2)

pub all_stay : (row xs ys : List ℕ) → Grows xs ys → AreIn row xs → AreIn row ys
all_stay row xs ys g h = λ i k. stays (get_or row i 0) xs ys g (h i k)

pub few_mark : (number : ℕ) (xs : List ℕ) → length (with_mark number xs) ≤ length xs + 1
few_mark number xs = elim (is_in number xs) as (λ b. length (cond b xs (xs ++ number ∷ [])) ≤ length xs + 1) [ true ↦ omega arith | false ↦ omega (arith, length-append xs (number ∷ [])) ]

-- a mark is another's or the new one
pub mark_cases : (other number : ℕ) (xs : List ℕ) → is_in other (with_mark number xs) ≡ true → (is_in other xs ≡ true) ⊎ (other ≡ number)
mark_cases other number xs h = (elim (is_in number xs) as (λ b. is_in other (cond b xs (xs ++ number ∷ [])) ≡ true → (is_in other xs ≡ true) ⊎ (other ≡ number)) [ true ↦ λ k. inl k | false ↦ λ k. ends xs k ]) h
  where
    ends : (xs : List ℕ) → is_in other (xs ++ number ∷ []) ≡ true → (is_in other xs ≡ true) ⊎ (other ≡ number)
    ends [] k = let r = at_in other (number ∷ []) k in inr (one r.0 r.1 r.2)
      where
        one : (i : ℕ) → i < 1 → get_or (number ∷ []) i 0 ≡ other → other ≡ number
        one zero h e = sym e
        one (suc i) h e = absurd (omega arith)
    ends (x ∷ xs) k = elim (eqb x other) as (λ b. (b || is_in other (xs ++ number ∷ [])) ≡ true → ((b || is_in other xs) ≡ true) ⊎ (other ≡ number)) [ true ↦ λ m. inl refl | false ↦ λ m. ends xs m ] k

pub lengths_mark : (rows : ℕ → List ℕ) (number : ℕ) (xs : List ℕ) → is_in number xs ≡ false → lengths rows (with_mark number xs) ≡ lengths rows xs + length (rows number)
lengths_mark rows number xs h = ap (λ b. lengths rows (cond b xs (xs ++ number ∷ []))) h ∙ omega (arith, sum_by-append (λ n. length (rows n)) xs (number ∷ []), sum_by-cons (λ n. length (rows n)) number [])

-- the rows of one more number
pub lengths_more : (rows : ℕ → List ℕ) (old new : List ℕ) (k : ℕ) → k < length old → Grows old new → lengths rows (take (k + 1) new) ≡ lengths rows (take k old) + length (rows (get_or old k 0))
lengths_more rows old new k h g =
    let f : ℕ → ℕ = λ n. length (rows n) in
    sum_by-take f new k (omega (arith, h, g.longer)) ∙ ap (λ n. n + f (get_or new k 0)) (ap (sum_by f) (take_same old new k (omega arith) g)) ∙ ap (λ n. sum_by f (take k old) + f n) (g.same k h)
  where
    take_same : (old new : List ℕ) (k : ℕ) → k ≤ length old → Grows old new → take k new ≡ take k old
    take_same old new k h g = ext_get_or 0 (take k new) (take k old) (omega (arith, length-take k new, length-take k old, h, g.longer)) (λ i l.
        let m : i < k = omega (arith, l, length-take k new) in
        get_or-take k new i 0 m ∙ g.same i (omega (arith, m, h)) ∙ sym (get_or-take k old i 0 m))

    sum_by-take : (f : ℕ → ℕ) (xs : List ℕ) (k : ℕ) → k < length xs → sum_by f (take (k + 1) xs) ≡ sum_by f (take k xs) + f (get_or xs k 0)
    sum_by-take f xs k h = ap (sum_by f) (take_more xs k 0 h) ∙ omega (arith, sum_by-append f (take k xs) (get_or xs k 0 ∷ []), sum_by-cons f (get_or xs k 0) [])

pub pass_mark : (test : ℕ → Bool) (number : ℕ) (xs : List ℕ) → test number ≡ true → AllPass test xs → AllPass test (with_mark number xs)
pass_mark test number xs h all = λ other i. elim (mark_cases other number xs i) [ inl k ↦ all other k | inr e ↦ ap test e ∙ h ]
