-- How many activities progress, as one comes, changes and goes.
use Rattle.std.proofs.Common.{◌≡◌, ℕ, zero, suc, ◌+◌, ◌<◌, Bool, true, false, Option, None, Some, count_by, cond, List, [], ◌∷◌, length, set, IsSome, refl, arith}
use Rattle.std.proofs.lemmas.List.Sums.{sum_by-cons, sum_by-set}
use Rattle.sg_activity_table.specs.declared.lives.Live.{Live}
use Rattle.sg_activity_table.specs.Pool.{slot_at, goes_on}
use Rattle.sg_activity_table.specs.Slots.{passes}
use Rattle.sg_activity_table.proofs.Places.{there_within}

-- whether none progresses
pub none_counts : (slots : List (Option Live)) → count_by (passes goes_on) slots ≡ 0 → (k : ℕ) → passes goes_on (slot_at slots k) ≡ false
none_counts [] e k = refl
none_counts (o ∷ slots) e zero = first (passes goes_on o) (omega (arith, e, sum_by-cons (λ (o : Option Live). cond (passes goes_on o) 1 0) o slots))
  where
    first : (b : Bool) → ◌≡◌ {A = ℕ} (cond b 1 0) 0 → b ≡ false
    first true e = absurd (omega (arith, e))
    first false e = refl
none_counts (o ∷ slots) e (suc k) = none_counts slots (omega (arith, e, sum_by-cons (λ (o : Option Live). cond (passes goes_on o) 1 0) o slots)) k

pub some_counts : (slots : List (Option Live)) → 0 < count_by (passes goes_on) slots → (k : ℕ) × (live : Live) × (slot_at slots k ≡ Some live) × (goes_on live ≡ true)
some_counts [] h = absurd (omega (arith, h))
some_counts (None ∷ slots) h = let r = some_counts slots (omega (arith, h, sum_by-cons (λ (o : Option Live). cond (passes goes_on o) 1 0) None slots)) in (suc r.0, r.1, r.2, r.3)
some_counts (Some live ∷ slots) h = go (goes_on live) refl (omega (arith, h, sum_by-cons (λ (o : Option Live). cond (passes goes_on o) 1 0) (Some live) slots)) (some_counts slots)
  where
    go : (b : Bool) → goes_on live ≡ b → 0 < cond b 1 0 + count_by (passes goes_on) slots → (0 < count_by (passes goes_on) slots → (k : ℕ) × (its : Live) × (slot_at slots k ≡ Some its) × (goes_on its ≡ true)) →
        (k : ℕ) × (its : Live) × (slot_at (Some live ∷ slots) k ≡ Some its) × (goes_on its ≡ true)
    go true e h more = (0, live, refl, e)
    go false e h more = let r = more (omega (arith, h)) in (suc r.0, r.1, r.2, r.3)

-- another takes the place of one
pub counts_set : (slots : List (Option Live)) (key : ℕ) (slot : Option Live) → key < length slots → count_by (passes goes_on) (set slots key slot) + cond (passes goes_on (slot_at slots key)) 1 0 ≡ count_by (passes goes_on) slots + cond (passes goes_on slot) 1 0
counts_set slots key slot within = sum_by-set (λ o. cond (passes goes_on o) 1 0) slots key slot None within

pub within_there : (slots : List (Option Live)) (key : ℕ) → IsSome (slot_at slots key) → key < length slots
within_there slots key there = go (slot_at slots key) refl there
  where
    go : (o : Option Live) → slot_at slots key ≡ o → IsSome o → key < length slots
    go None e some = absurd (cc some)
    go (Some live) e some = there_within slots key live e
