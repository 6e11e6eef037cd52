-- The waiters of the activities, by activity id, as one begins and as one is done.
use Rattle.std.proofs.Common.{◌≡◌, ◌≢◌, ℕ, zero, suc, ◌+◌, ◌-◌, ◌<◌, ◌≤◌, Option, [], ◌∷◌, ◌++◌, length, set, get_or, refl, ap, ap₂, ◌∙◌, arith}
use Rattle.sg_mailbox.specs.declared.owners.Whose.{Whose}
use Rattle.sg_mailbox.specs.Owners.{whose_of, table}

pub table_none : (f : ℕ → Option Whose) (from : ℕ) → table f from 0 ≡ []
unfolding table
table_none f from = refl

pub length-table : (f : ℕ → Option Whose) (from n : ℕ) → length (table f from n) ≡ n
unfolding table
length-table f from zero = refl
length-table f from (suc n) = ap (λ k. suc k) (length-table f (from + 1) n)

pub table_at : (f : ℕ → Option Whose) (from n i : ℕ) (d : Whose) → i < n → get_or (table f from n) i d ≡ whose_of (f (from + i))
unfolding table
table_at f from zero i d within = absurd (omega (arith, within))
table_at f from (suc n) zero d within = let at : from ≡ from + 0 = omega arith in ap (λ k. whose_of (f k)) at
table_at f from (suc n) (suc i) d within = let at : from + 1 + i ≡ from + suc i = omega arith in table_at f (from + 1) n i d (omega (arith, within)) ∙ ap (λ k. whose_of (f k)) at

table-suc : (f : ℕ → Option Whose) (from n : ℕ) → table f from (suc n) ≡ table f from n ++ whose_of (f (from + n)) ∷ []
unfolding table
table-suc f from zero = let at : from ≡ from + 0 = omega arith in ap (λ k. whose_of (f k) ∷ []) at
table-suc f from (suc n) =
    let at : from + 1 + n ≡ from + suc n = omega arith in
    ap (λ l. whose_of (f from) ∷ l) (table-suc f (from + 1) n ∙ ap (λ k. table f (from + 1) n ++ whose_of (f k) ∷ []) at)

pub table-push : (f : ℕ → Option Whose) (from n : ℕ) → table f from (n + 1) ≡ table f from n ++ whose_of (f (from + n)) ∷ []
table-push f from n = let at : n + 1 ≡ suc n = omega arith in ap (table f from) at ∙ table-suc f from n

pub table_same : (f g : ℕ → Option Whose) (from n : ℕ) → ((k : ℕ) → from ≤ k → k < from + n → f k ≡ g k) → table f from n ≡ table g from n
unfolding table
table_same f g from zero h = refl
table_same f g from (suc n) h = ap₂ (λ x l. whose_of x ∷ l) (h from (omega arith) (omega arith)) (table_same f g (from + 1) n (λ k a b. h k (omega (arith, a)) (omega (arith, b))))

pub table-set : (f g : ℕ → Option Whose) (from n k : ℕ) → from ≤ k → ((j : ℕ) → j ≢ k → g j ≡ f j) → table g from n ≡ set (table f from n) (k - from) (whose_of (g k))
unfolding table
table-set f g from zero k le h = refl
table-set f g from (suc n) k le h = cases (k - from) refl (λ le'. table-set f g (from + 1) n k le' h)
  where
    cases : (d : ℕ) → k - from ≡ d → (from + 1 ≤ k → table g (from + 1) n ≡ set (table f (from + 1) n) (k - (from + 1)) (whose_of (g k))) → whose_of (g from) ∷ table g (from + 1) n ≡ set (whose_of (f from) ∷ table f (from + 1) n) d (whose_of (g k))
    cases zero e more =
        let at : from ≡ k = omega (arith, e, le) in
        ap₂ (λ x l. whose_of x ∷ l) (ap g at) (table_same g f (from + 1) n (λ j a b. h j (λ z. absurd (omega (arith, z, a, at)))))
    cases (suc d) e more =
        let less : k - (from + 1) ≡ d = omega (arith, e) in
        ap₂ (λ x l. whose_of x ∷ l) (h from (λ z. absurd (omega (arith, z, e)))) (more (omega (arith, e)) ∙ ap (λ i. set (table f (from + 1) n) i (whose_of (g k))) less)
