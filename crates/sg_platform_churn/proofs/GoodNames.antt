-- The names of rows are names, and no two of a space are the same.
use Rattle.std.proofs.Common.{◌≡◌, ◌≢◌, ℕ, ◌+◌, ◌<◌, ◌≤◌, ◌==◌, ◌&&◌, ◌%◌, ◌^◌, true, not, nat_le, List, [], ◌∷◌, ◌++◌, length, decimal, IsTrue, arith}
use Rattle.std.proofs.lemmas.Bool.Decides.{nat_tests}
use Rattle.std.proofs.lemmas.Fmt.{decimal_by_steps, decimal_injective, length-decimal-le}
use Rattle.std.proofs.lemmas.List.Elements.{All-cons}
use Rattle.std.proofs.lemmas.List.Folds.{list_all-append}
use Rattle.std.specs.List.{list_all}
use Rattle.sg_platform_churn.proofs.NumberedRows.{all_rows, distinct_behind, distinct_rows}
use Rattle.sg_platform_churn.specs.Generated.{churn_name, rows}
use Rattle.sg_platform_rows.specs.OfRows.{AreNames}
use Rattle.sg_toml_tree.specs.Spelling.{is_name, is_name_byte}

digit_fits : (n : ℕ) → n < 10 → is_name_byte (48 + n) ≡ true
digit_fits n low = grind (arith, nat_tests)

digits_fit : (n : ℕ) → n < 2 ^ 64 → list_all is_name_byte (decimal n) ≡ true
digits_fit = decimal_by_steps (λ m ds. list_all is_name_byte ds ≡ true) one more
  where
    one : (m : ℕ) → m < 10 → list_all is_name_byte ((48 + m) ∷ []) ≡ true
    one m low = rw (digit_fits m low)

    more : (m : ℕ) (ds : List ℕ) → 10 ≤ m → list_all is_name_byte ds ≡ true → list_all is_name_byte (ds ++ ((48 + m % 10) ∷ [])) ≡ true
    more m ds high fit = rw (list_all-append is_name_byte ds ((48 + m % 10) ∷ []), fit, digit_fits (m % 10) (omega arith))

name_fits : (text : List ℕ) → 0 < length text → length text ≤ 64 → list_all is_name_byte text ≡ true → IsTrue (is_name text)
unfolding is_name
name_fits text some short fit = rw fit (within (length text) some short)
  where
    within : (n : ℕ) → 0 < n → n ≤ 64 → (not (n == 0) && nat_le n 64) && true ≡ true
    within n some short = grind (arith, nat_tests)

row_name_fits : (c row : ℕ) → is_name_byte c ≡ true → row < 4096 → IsTrue (is_name (churn_name (c ∷ []) row))
row_name_fits c row fits few =
    name_fits (c ∷ decimal (row + 1)) (omega arith) (omega (arith, length-decimal-le 5 (row + 1) (omega arith) (omega arith) (omega arith))) (rw (fits, digits_fit (row + 1) (omega arith)))

row_names_differ : (c i j : ℕ) → i < j → j < 4096 → churn_name (c ∷ []) i ≢ churn_name (c ∷ []) j
row_names_differ c i j before few same =
    let numbers : decimal (i + 1) ≡ decimal (j + 1) = cc in
    let equal : i + 1 ≡ j + 1 = decimal_injective (i + 1) (j + 1) (omega arith) (omega arith) numbers in
    absurd (omega arith)

-- the names of rows under one letter
pub row_names : (c count : ℕ) → is_name_byte c ≡ true → count ≤ 4096 → AreNames (rows (churn_name (c ∷ [])) count)
row_names c count fits few = record {
  fit = all_rows (λ name. IsTrue (is_name name)) (churn_name (c ∷ [])) count (λ k below. row_name_fits c k fits (omega arith));
  distinct = distinct_rows (churn_name (c ∷ [])) count (λ i j before below. row_names_differ c i j before (omega arith));
}

-- the same after a name that begins otherwise
pub row_names_behind : (name : List ℕ) (c count : ℕ) → IsTrue (is_name name) → is_name_byte c ≡ true → ((row : ℕ) → name ≢ churn_name (c ∷ []) row) → count ≤ 4096
    → AreNames (name ∷ rows (churn_name (c ∷ [])) count)
row_names_behind name c count named fits differ few =
    let behind = row_names c count fits few in
    record {
      fit = All-cons (λ name. IsTrue (is_name name)) name (rows (churn_name (c ∷ [])) count) named behind.fit;
      distinct = distinct_behind name (rows (churn_name (c ∷ [])) count) (all_rows (λ other. name ≢ other) (churn_name (c ∷ [])) count (λ k below. differ k)) behind.distinct;
    }
