-- Lists of rows that are made from their numbers.
use Rattle.std.proofs.Common.{◌≡◌, ◌≢◌, ℕ, zero, suc, ◌+◌, ◌<◌, List, [], ◌∷◌, ◌++◌, length, get_or, ap, sym, subst, arith}
use Rattle.std.proofs.lemmas.List.FromFn.{get_or-map-range_with_len, length-map-range_with_len, map-range_with_len_more}
use Rattle.std.specs.List.{All}
use Rattle.sg_platform_churn.specs.Generated.{rows}
use Rattle.sg_platform_rows.specs.OfRows.{AreDistinct}

pub length-rows : {A : Type 0} (f : ℕ → A) (count : ℕ) → length (rows f count) ≡ count
length-rows f count = length-map-range_with_len f 0 count

next_row : {A : Type 0} (f : ℕ → A) (count : ℕ) → rows f (count + 1) ≡ rows f count ++ f count ∷ []
next_row f count = map-range_with_len_more f 0 count count (omega arith)

-- one row more is pushed
pub pushed : {A : Type 0} (f : ℕ → A) (count : ℕ) (old new : List A) (x : A) → old ≡ rows f count → x ≡ f count → new ≡ old ++ x ∷ [] → new ≡ rows f (count + 1)
pushed f count old new x before made grown = rw (grown, before, made) (sym (next_row f count))

pub pushed_behind : {A : Type 0} (first : A) (f : ℕ → A) (count : ℕ) (old new : List A) (x : A) → old ≡ first ∷ rows f count → x ≡ f count → new ≡ old ++ x ∷ [] → new ≡ first ∷ rows f (count + 1)
pushed_behind {A} first f count old new x before made grown = rw (grown, before, made) (ap (λ (xs : List A). first ∷ xs) (sym (next_row f count)))

pub row_at : {A : Type 0} (f : ℕ → A) (count k : ℕ) (d : A) → k < count → get_or (rows f count) k d ≡ f k
row_at f count k d below = get_or-map-range_with_len f 0 count k k d below (omega arith)

pub all_rows : {A : Type 0} (P : A → Type 0) (f : ℕ → A) (count : ℕ) → ((k : ℕ) → k < count → P (f k)) → All P (rows f count)
all_rows P f count each k d within =
    let below : k < count = omega (arith, length-rows f count) in
    subst P (sym (row_at f count k d below)) (each k below)

pub distinct_rows : {A : Type 0} (f : ℕ → A) (count : ℕ) → ((i j : ℕ) → i < j → j < count → f i ≢ f j) → AreDistinct (rows f count)
distinct_rows {A} f count differ i j d before within =
    let below : j < count = omega (arith, length-rows f count) in
    let first : i < count = omega arith in
    subst (λ (x : A). x ≢ get_or (rows f count) j d) (sym (row_at f count i d first))
    (subst (λ (y : A). f i ≢ y) (sym (row_at f count j d below)) (differ i j before below))

pub distinct_behind : {A : Type 0} (x : A) (xs : List A) → All (λ y. x ≢ y) xs → AreDistinct xs → AreDistinct (x ∷ xs)
distinct_behind x xs differ distinct zero zero d before within = absurd (omega arith)
distinct_behind x xs differ distinct (suc i) zero d before within = absurd (omega arith)
distinct_behind x xs differ distinct zero (suc j) d before within = differ j d (omega arith)
distinct_behind x xs differ distinct (suc i) (suc j) d before within = distinct i j d (omega arith) (omega arith)
