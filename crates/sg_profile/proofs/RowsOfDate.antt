-- The rows that have a date.
use Rattle.std.proofs.Common.{◌≡◌, ◌≢◌, ℕ, zero, suc, ◌+◌, ◌-◌, ◌<◌, ◌≤◌, ◌⊎◌, inl, inr, Bool, true, false, cond, Option, None, Some, List, [], ◌∷◌, get_or, set, refl, sym, ap, ◌∙◌, eqb-true, eq-eqb, arith}
use Rattle.sg_profile.specs.Profiles.{rows_due_from}
use Rattle.sg_profile.proofs.Cases.{is_at}

same : (b : Bool) → (b ≡ true) ⊎ (b ≡ false)
same true = inl refl
same false = inr refl

at_is : (date : ℕ) (its : Option ℕ) → is_at date its ≡ true → its ≡ Some date
at_is date None e = absurd (cc e)
at_is date (Some other) e = ap Some (eqb-true other date e)

is_at_its : (date : ℕ) → is_at date (Some date) ≡ true
is_at_its date = eq-eqb date date refl

not_at : (date : ℕ) (its : Option ℕ) → its ≢ Some date → is_at date its ≡ false
not_at date its other = elim (same (is_at date its)) [ inl yes' ↦ absurd (other (at_is date its yes')) | inr no' ↦ no' ]

past : (row date : ℕ) (its : Option ℕ) (dates : List (Option ℕ)) → is_at date its ≡ false → rows_due_from row date (its ∷ dates) ≡ rows_due_from (row + 1) date dates
unfolding rows_due_from
past row date its dates e = ap (λ (b : Bool). cond b (row ∷ rows_due_from (row + 1) date dates) (rows_due_from (row + 1) date dates)) e

found : (row date : ℕ) (its : Option ℕ) (dates : List (Option ℕ)) → is_at date its ≡ true → rows_due_from row date (its ∷ dates) ≡ row ∷ rows_due_from (row + 1) date dates
unfolding rows_due_from
found row date its dates e = ap (λ (b : Bool). cond b (row ∷ rows_due_from (row + 1) date dates) (rows_due_from (row + 1) date dates)) e

no_first : (from date row : ℕ) (rest : List ℕ) → rows_due_from from date [] ≡ row ∷ rest → ⊥
unfolding rows_due_from
no_first from date row rest e = cc e

-- This row is from the first on, and has the date.
pub record IsThere (from date row : ℕ) (dates : List (Option ℕ)) : Type 0 where
  pub from_on : from ≤ row
  pub there : get_or dates (row - from) None ≡ Some date

-- the first of the list has the date
pub first_there : (from date row : ℕ) (dates : List (Option ℕ)) (rest : List ℕ) → rows_due_from from date dates ≡ row ∷ rest → IsThere from date row dates
first_there from date row [] rest e = absurd (no_first from date row rest e)
first_there from date row (its ∷ dates) rest e = elim (same (is_at date its)) [
  | inl yes' ↦
      let at : from ∷ rows_due_from (from + 1) date dates ≡ row ∷ rest = sym (found from date its dates yes') ∙ e in
      let here : from ≡ row = cc at in
      let z : row - from ≡ 0 = omega (arith, here) in
      record { from_on = omega (arith, here); there = ap (λ (k : ℕ). get_or (its ∷ dates) k None) z ∙ at_is date its yes' }
  | inr no' ↦
      let behind = first_there (from + 1) date row dates rest (sym (past from date its dates no') ∙ e) in
      let z : row - from ≡ suc (row - (from + 1)) = omega (arith, behind.from_on) in
      record { from_on = omega (arith, behind.from_on); there = ap (λ (k : ℕ). get_or (its ∷ dates) k None) z ∙ behind.there }
]

-- once the first has another date, the others are left
pub rest_there : (from date row : ℕ) (dates : List (Option ℕ)) (rest : List ℕ) (other : Option ℕ) → other ≢ Some date → rows_due_from from date dates ≡ row ∷ rest → rows_due_from from date (set dates (row - from) other) ≡ rest
rest_there from date row [] rest other ne e = absurd (no_first from date row rest e)
rest_there from date row (its ∷ dates) rest other ne e = elim (same (is_at date its)) [
  | inl yes' ↦
      let at : from ∷ rows_due_from (from + 1) date dates ≡ row ∷ rest = sym (found from date its dates yes') ∙ e in
      let here : from ≡ row = cc at in
      let z : row - from ≡ 0 = omega (arith, here) in
      let left : rows_due_from (from + 1) date dates ≡ rest = cc at in
      ap (λ (k : ℕ). rows_due_from from date (set (its ∷ dates) k other)) z ∙ past from date other dates (not_at date other ne) ∙ left
  | inr no' ↦
      let there : rows_due_from (from + 1) date dates ≡ row ∷ rest = sym (past from date its dates no') ∙ e in
      let behind = first_there (from + 1) date row dates rest there in
      let z : row - from ≡ suc (row - (from + 1)) = omega (arith, behind.from_on) in
      ap (λ (k : ℕ). rows_due_from from date (set (its ∷ dates) k other)) z
      ∙ past from date its (set dates (row - (from + 1)) other) no'
      ∙ rest_there (from + 1) date row dates rest other ne there
]

-- if no row has the date, the list is empty
pub none_there : (from date : ℕ) (dates : List (Option ℕ)) → ((row : ℕ) → get_or dates row None ≢ Some date) → rows_due_from from date dates ≡ []
unfolding rows_due_from
none_there from date [] none = refl
none_there from date (its ∷ dates) none = past from date its dates (not_at date its (none 0)) ∙ none_there (from + 1) date dates (λ row. none (suc row))

-- This row comes first.
pub record IsFirst (from date row : ℕ) (dates : List (Option ℕ)) : Type 0 where
  pub rest : List ℕ
  pub is : rows_due_from from date dates ≡ (from + row) ∷ rest

-- a row that has the date, and none before it has, comes first
pub row_first : (from date row : ℕ) (dates : List (Option ℕ)) → get_or dates row None ≡ Some date → ((i : ℕ) → i < row → get_or dates i None ≢ Some date) → IsFirst from date row dates
row_first from date row [] there none = absurd (cc there)
row_first from date zero (its ∷ dates) there none =
    let here : is_at date its ≡ true = ap (is_at date) there ∙ is_at_its date in
    let z : from ≡ from + 0 = omega arith in
    record { rest = rows_due_from (from + 1) date dates; is = found from date its dates here ∙ ap (λ (k : ℕ). k ∷ rows_due_from (from + 1) date dates) z }
row_first from date (suc row) (its ∷ dates) there none =
    let behind = row_first (from + 1) date row dates there (λ i less. none (suc i) (omega (arith, less))) in
    let z : from + 1 + row ≡ from + suc row = omega arith in
    record {
      rest = behind.rest;
      is = past from date its dates (not_at date its (none 0 (omega arith))) ∙ behind.is ∙ ap (λ (k : ℕ). k ∷ behind.rest) z;
    }
