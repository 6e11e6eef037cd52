-- A pass over distinct flows changes what follows it no more.
use Rattle.std.proofs.Common.{◌≡◌, ◌≢◌, ℕ, suc, ◌+◌, ◌<◌, List, Option, [], ◌∷◌, length, get_or, take, sum_by, AllPairs, length-take, refl, sym, ap, ◌∙◌, arith}
use Rattle.std.proofs.lemmas.List.{take_more}
use Rattle.std.proofs.Math.Seq.{get_or-take}
use Rattle.std.proofs.lemmas.List.Sums.{sum_by-append, sum_by-cons}
use Rattle.sg_maxmin_solve.specs.Filling.{fixed_at}

sum-on : (f h : ℕ → ℕ) (xs : List ℕ) → ((i : ℕ) → i < length xs → f (get_or xs i 0) ≡ h (get_or xs i 0)) → sum_by f xs ≡ sum_by h xs
sum-on f h [] e = refl
sum-on f h (x ∷ xs) e = omega (arith, sum_by-cons f x xs, sum_by-cons h x xs, e 0 (omega arith), sum-on f h xs (λ i k. e (suc i) (omega arith)))

-- The flow at k is written; what is summed over those before it stays, and its own part comes on top.
pub sum_next : (part : Option ℕ → ℕ → ℕ) (before after : List (Option ℕ)) (flows : List ℕ) (k : ℕ) → k < length flows → AllPairs (λ a b. a ≢ b) flows → ((other : ℕ) → other ≢ get_or flows k 0 → fixed_at after other ≡ fixed_at before other) →
    sum_by (λ f. part (fixed_at after f) f) (take (k + 1) flows) ≡ sum_by (λ f. part (fixed_at before f) f) (take k flows) + part (fixed_at after (get_or flows k 0)) (get_or flows k 0)
sum_next part before after flows k h once others =
    let new : ℕ → ℕ = λ f. part (fixed_at after f) f in
    let old : ℕ → ℕ = λ f. part (fixed_at before f) f in
    let same = sum-on new old (take k flows) (λ i l.
    let m : i < k = omega (arith, l, length-take k flows) in
    let at = get_or-take k flows i 0 m in
    ap (λ o. part o (get_or (take k flows) i 0)) (others (get_or (take k flows) i 0) (λ e. once i k 0 m h (sym at ∙ e)))) in
    ap (sum_by new) (take_more flows k 0 h) ∙ omega (arith, sum_by-append new (take k flows) (get_or flows k 0 ∷ []), sum_by-cons new (get_or flows k 0) [], same)
