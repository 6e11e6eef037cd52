-- Which numbers are free, as numbers are made, given and given back.
use Rattle.std.proofs.Common.{◌≡◌, ◌≢◌, ℕ, ◌+◌, ◌-◌, ◌^◌, ◌<◌, ◌≤◌, ◌⊎◌, inl, inr, cond, Option, None, Some, is_some, IsSome, List, [], ◌∷◌, ◌++◌, length, get_or, set, length-set, length-append, get_or-set_same, get_or-set_other, count_by, sym, ap, subst, ◌∙◌, arith}
use Rattle.std.proofs.lemmas.List.{get_or_push, get_or_append_left, get_or_past, get_or-map, length-map, map-set, map_push}
use Rattle.std.proofs.lemmas.List.Sums.{sum_by-set, sum_by-append}
use Rattle.sg_maxmin.specs.declared.flow_row.FlowRow.{FlowRow}
use Rattle.sg_maxmin.specs.declared.flow_row.Cell.{Cell}
use Rattle.sg_maxmin.specs.kept.Cells.{row_in, rows_in}
use Rattle.sg_maxmin.specs.kept.Numbers.{AreFree, row_at}

lt_cases : (k n : ℕ) → k < n + 1 → (k < n) ⊎ (k ≡ n)
lt_cases k n h = grind arith

-- 1 for a row
abbrev one : Option FlowRow → ℕ
one o = cond (is_some o) 1 0

pub count_push : (rows : List (Option FlowRow)) → count_by is_some (rows ++ None ∷ []) ≡ count_by is_some rows
count_push rows = sum_by-append (λ o. cond (is_some o) 1 0) rows (None ∷ []) ∙ plus (count_by is_some rows)
  where
    plus : (n : ℕ) → n + 0 ≡ n
    plus n = omega arith

-- a row comes, or goes, at one number
pub count_set : (rows : List (Option FlowRow)) (id : ℕ) (slot : Option FlowRow) → id < length rows → count_by is_some (set rows id slot) + cond (is_some (row_at rows id)) 1 0 ≡ count_by is_some rows + cond (is_some slot) 1 0
count_set rows id slot h = sum_by-set (λ o. cond (is_some o) 1 0) rows id slot None h

pub in_rows : (rows : List (Option FlowRow)) (id : ℕ) (row : FlowRow) → row_at rows id ≡ Some row → id < length rows
in_rows rows id row e = elim (cases id (length rows)) [ inl h ↦ h | inr h ↦ cc (sym (past rows id h) ∙ e) ]
  where
    cases : (a b : ℕ) → (a < b) ⊎ (b ≤ a)
    cases a b = grind arith

    past : (xs : List (Option FlowRow)) (k : ℕ) → length xs ≤ k → get_or xs k None ≡ None
    past xs k h = grind (arith, get_or_past)

-- one more number
pub free_grown : (rows : List (Option FlowRow)) (free : List ℕ) (count number : ℕ) → AreFree rows free count → number ≡ length rows → number < 2 ^ 32 → AreFree (rows ++ None ∷ []) (set (free ++ number ∷ []) count number) (count + 1)
free_grown rows free count number are is small =
    let longer : length (rows ++ None ∷ []) ≡ length rows + 1 = length-append rows (None ∷ []) in
    let within : count ≤ length free = omega (arith, are.len, are.counted) in
    let long : length (free ++ number ∷ []) ≡ length free + 1 = length-append free (number ∷ []) in
    let last : get_or (set (free ++ number ∷ []) count number) count 0 ≡ number = get_or-set_same (free ++ number ∷ []) count number 0 (omega (arith, within, long)) in
    let kept = λ (k : ℕ) (h : k < count).
    let goal : get_or (set (free ++ number ∷ []) count number) k 0 ≡ get_or free k 0 =
    get_or-set_other (free ++ number ∷ []) count k number 0 (λ e. omega (arith, h, e)) ∙ get_or_append_left free (number ∷ []) 0 k (omega (arith, h, within)) in goal in
    record {
      len = length-set (free ++ number ∷ []) count number ∙ long ∙ ap (λ n. n + 1) are.len ∙ sym longer;
      counted = omega (arith, count_push rows, are.counted, longer);
      in_range = λ k h. elim (lt_cases k count h) [
        | inl less ↦ omega (arith, kept k less, are.in_range k less, longer)
        | inr e ↦ subst (λ j. get_or (set (free ++ number ∷ []) count number) j 0 < length (rows ++ None ∷ [])) (sym e) (omega (arith, last, is, longer))
      ];
      vacant = λ k h. elim (lt_cases k count h) [
        | inl less ↦ ap (λ j. get_or (rows ++ None ∷ []) j None) (kept k less) ∙ get_or_append_left rows (None ∷ []) None (get_or free k 0) (are.in_range k less) ∙ are.vacant k less
        | inr e ↦ subst (λ j. get_or (rows ++ None ∷ []) (get_or (set (free ++ number ∷ []) count number) j 0) None ≡ None) (sym e) (ap (λ j. get_or (rows ++ None ∷ []) j None) last ∙ get_or_push rows None None number (sym is))
      ];
      once = λ j k less h. elim (lt_cases k count h) [
        | inl fewer ↦ λ z. are.once j k less fewer (sym (kept j (omega (arith, less, fewer))) ∙ z ∙ kept k fewer)
        | inr e ↦
            let old : j < count = omega (arith, less, e) in
            λ z. omega (arith, are.in_range j old, kept j old, z, ap (λ i. get_or (set (free ++ number ∷ []) count number) i 0) e, last, is)
      ];
      few = omega (arith, longer, is, small);
    }

-- a free number gets a row
pub free_taken : (rows : List (Option FlowRow)) (free : List ℕ) (count id : ℕ) (row : FlowRow) → AreFree rows free count → 0 < count → id ≡ get_or free (count - 1) 0 → AreFree (set rows id (Some row)) free (count - 1)
free_taken rows free count id row are pos is =
    let last : count - 1 < count = omega (arith, pos) in
    let within : id < length rows = omega (arith, is, are.in_range (count - 1) last) in
    let vacant : row_at rows id ≡ None = ap (λ k. get_or rows k None) is ∙ are.vacant (count - 1) last in
    let none : ◌≡◌ {A = ℕ} (cond (is_some (row_at rows id)) 1 0) 0 = ap one vacant in
    record {
      len = are.len ∙ sym (length-set rows id (Some row));
      counted = omega (arith, count_set rows id (Some row) within, none, are.counted, pos, length-set rows id (Some row));
      in_range = λ k h. subst (λ n. get_or free k 0 < n) (sym (length-set rows id (Some row))) (are.in_range k (omega (arith, h)));
      vacant = λ k h. get_or-set_other rows id (get_or free k 0) (Some row) None (λ e. are.once k (count - 1) h last (e ∙ is)) ∙ are.vacant k (omega (arith, h));
      once = λ j k less h. are.once j k less (omega (arith, h));
      few = subst (λ n. n ≤ 2 ^ 32) (sym (length-set rows id (Some row))) are.few;
    }

-- a number is given back
pub free_given : (rows : List (Option FlowRow)) (free : List ℕ) (count id : ℕ) (row : FlowRow) → AreFree rows free count → row_at rows id ≡ Some row → AreFree (set rows id None) (set free count id) (count + 1)
free_given rows free count id row are there =
    let within : id < length rows = in_rows rows id row there in
    let some : ◌≡◌ {A = ℕ} (cond (is_some (row_at rows id)) 1 0) 1 = ap one there in
    let counted = count_set rows id None within in
    let fits : count < length free = omega (arith, counted, some, are.counted, are.len) in
    let last : get_or (set free count id) count 0 ≡ id = get_or-set_same free count id 0 fits in
    let kept = λ (k : ℕ) (h : k < count).
    let goal : get_or (set free count id) k 0 ≡ get_or free k 0 = get_or-set_other free count k id 0 (λ e. omega (arith, h, e)) in goal in
    let apart = λ (k : ℕ) (h : k < count). let goal : get_or free k 0 ≢ id = λ e. cc (sym (are.vacant k h) ∙ ap (λ j. get_or rows j None) e ∙ there) in goal in
    record {
      len = length-set free count id ∙ are.len ∙ sym (length-set rows id None);
      counted = omega (arith, counted, some, are.counted, length-set rows id None);
      in_range = λ k h. elim (lt_cases k count h) [
        | inl less ↦ omega (arith, kept k less, are.in_range k less, length-set rows id None)
        | inr e ↦ subst (λ j. get_or (set free count id) j 0 < length (set rows id None)) (sym e) (omega (arith, last, within, length-set rows id None))
      ];
      vacant = λ k h. elim (lt_cases k count h) [
        | inl less ↦ ap (λ j. get_or (set rows id None) j None) (kept k less) ∙ get_or-set_other rows id (get_or free k 0) None None (apart k less) ∙ are.vacant k less
        | inr e ↦ subst (λ j. get_or (set rows id None) (get_or (set free count id) j 0) None ≡ None) (sym e) (ap (λ j. get_or (set rows id None) j None) last ∙ get_or-set_same rows id None None within)
      ];
      once = λ j k less h. elim (lt_cases k count h) [
        | inl fewer ↦ λ z. are.once j k less fewer (sym (kept j (omega (arith, less, fewer))) ∙ z ∙ kept k fewer)
        | inr e ↦
            let old : j < count = omega (arith, less, e) in
            λ z. apart j old (sym (kept j old) ∙ z ∙ ap (λ i. get_or (set free count id) i 0) e ∙ last)
      ];
      few = subst (λ n. n ≤ 2 ^ 32) (sym (length-set rows id None)) are.few;
    }

pub some_in : (rows : List (Option FlowRow)) (id : ℕ) → IsSome (row_at rows id) → id < length rows
some_in rows id some = elim (cases id (length rows)) [ inl h ↦ h | inr h ↦ absurd (none (row_at rows id) (past h) some) ]
  where
    cases : (a b : ℕ) → (a < b) ⊎ (b ≤ a)
    cases a b = grind arith

    past : length rows ≤ id → row_at rows id ≡ None
    past h = grind (arith, get_or_past)

    none : (o : Option FlowRow) → o ≡ None → IsSome o → ⊥
    none o e s = let t = subst (λ p. IsSome p) e s in cc t

-- a row comes in the place of another
pub free_replaced : (rows : List (Option FlowRow)) (free : List ℕ) (count id : ℕ) (row : FlowRow) → AreFree rows free count → IsSome (row_at rows id) → AreFree (set rows id (Some row)) free count
free_replaced rows free count id row are there =
    let within = some_in rows id there in
    let some : ◌≡◌ {A = ℕ} (cond (is_some (row_at rows id)) 1 0) 1 = ap (λ b. cond b 1 0) there in
    record {
      len = are.len ∙ sym (length-set rows id (Some row));
      counted = omega (arith, count_set rows id (Some row) within, some, are.counted, length-set rows id (Some row));
      in_range = λ k h. subst (λ n. get_or free k 0 < n) (sym (length-set rows id (Some row))) (are.in_range k h);
      vacant = λ k h. get_or-set_other rows id (get_or free k 0) (Some row) None (λ e. taken (row_at rows id) (sym (ap (λ j. row_at rows j) e) ∙ are.vacant k h) there) ∙ are.vacant k h;
      once = are.once;
      few = subst (λ n. n ≤ 2 ^ 32) (sym (length-set rows id (Some row))) are.few;
    }
  where
    taken : (o : Option FlowRow) → o ≡ None → IsSome o → ⊥
    taken o e s = let t = subst (λ p. IsSome p) e s in cc t

-- the rows in cells
pub rows_push : (cells : List Cell) (cell : Cell) (o : Option FlowRow) → row_in cell ≡ o → rows_in (cells ++ cell ∷ []) ≡ rows_in cells ++ o ∷ []
rows_push cells cell o e = map_push row_in cells cell ∙ ap (λ x. rows_in cells ++ x ∷ []) e

pub rows_set : (cells : List Cell) (i : ℕ) (cell : Cell) (o : Option FlowRow) → row_in cell ≡ o → rows_in (set cells i cell) ≡ set (rows_in cells) i o
rows_set cells i cell o e = map-set row_in cells i cell ∙ ap (λ x. set (rows_in cells) i x) e

pub row_read : (cells : List Cell) (i : ℕ) (cell : Cell) → i < length (rows_in cells) → get_or cells i cell ≡ cell → row_at (rows_in cells) i ≡ row_in cell
row_read cells i cell within is = get_or-map row_in cells i cell None (omega (arith, within, length-map cells row_in)) ∙ ap row_in is
