-- A pass over the rows, one more at a time.
use Rattle.std.proofs.Common.{◌≡◌, ℕ, zero, suc, ◌+◌, ◌-◌, ◌^◌, ◌<◌, true, false, cond, ◌&&◌, is_none, Option, None, Some, option_to_list, List, [], ◌∷◌, ◌++◌, filter, flat_map, length, get_or, take, sum_by, add-one, append-nil, append_assoc, refl, sym, ap, ◌∙◌, arith}
use Rattle.std.proofs.lemmas.List.Sums.{sum_by-cons, sum_by-append}
use Rattle.sg_maxmin.specs.declared.flow_row.FlowRow.{FlowRow}
use Rattle.sg_maxmin.specs.declared.uses.Use.{Use}
use Rattle.sg_maxmin.specs.Fill.{is_on}
use Rattle.sg_maxmin.specs.kept.Uses.{flow_of}
use Rattle.sg_maxmin.specs.kept.Counting.{rows_held, row_share, taken_on, waiting_on, row_taken, row_waiting, row_count, count_of, unfixed_limits, all_limits, row_limits, AreCounted}

pub held_suc : (rows : List (Option FlowRow)) (k : ℕ) → rows_held (take (suc k) rows) ≡ rows_held (take k rows) ++ option_to_list (get_or rows k None)
held_suc [] zero = refl
held_suc [] (suc k) = refl
held_suc (None ∷ rows) zero = refl
held_suc (Some row ∷ rows) zero = refl
held_suc (None ∷ rows) (suc k) = held_suc rows k
held_suc (Some row ∷ rows) (suc k) = ap (λ xs. row ∷ xs) (held_suc rows k)

pub held_more : (rows : List (Option FlowRow)) (k : ℕ) → rows_held (take (k + 1) rows) ≡ rows_held (take k rows) ++ option_to_list (get_or rows k None)
held_more rows k = rw add-one (held_suc rows k)

sum_one : (h : FlowRow → ℕ) (xs : List FlowRow) (row : FlowRow) → sum_by h (xs ++ row ∷ []) ≡ sum_by h xs + h row
sum_one h xs row = omega (arith, sum_by-append h xs (row ∷ []), sum_by-cons h row [])

sum_more : (h : FlowRow → ℕ) (part : Option FlowRow → ℕ) (rows : List (Option FlowRow)) (k : ℕ) → part None ≡ 0 → ((row : FlowRow) → part (Some row) ≡ h row) →
    sum_by h (rows_held (take (k + 1) rows)) ≡ sum_by h (rows_held (take k rows)) + part (get_or rows k None)
sum_more h part rows k none some = ap (λ xs. sum_by h xs) (held_more rows k) ∙ each (get_or rows k None)
  where
    each : (o : Option FlowRow) → sum_by h (rows_held (take k rows) ++ option_to_list o) ≡ sum_by h (rows_held (take k rows)) + part o
    each None = omega (arith, ap (λ xs. sum_by h xs) (append-nil (rows_held (take k rows))), none)
    each (Some row) = omega (arith, sum_one h (rows_held (take k rows)) row, some row)

pub taken_more : (rows : List (Option FlowRow)) (uses : List (Option Use)) (c k : ℕ) → taken_on (take (k + 1) rows) uses c ≡ taken_on (take k rows) uses c + row_taken uses (get_or rows k None) c
taken_more rows uses c k = sum_more (λ row. cond (is_on c (flow_of uses row)) (row_share row row.level) 0) (λ o. row_taken uses o c) rows k refl (λ row. refl)

pub waiting_more : (rows : List (Option FlowRow)) (uses : List (Option Use)) (c k : ℕ) → waiting_on (take (k + 1) rows) uses c ≡ waiting_on (take k rows) uses c + row_waiting uses (get_or rows k None) c
waiting_more rows uses c k = sum_more (λ row. cond (is_on c (flow_of uses row) && is_none row.level) row.weight 0) (λ o. row_waiting uses o c) rows k refl (λ row. refl)

pub count_more : (rows : List (Option FlowRow)) (k : ℕ) → count_of (take (k + 1) rows) ≡ count_of (take k rows) + row_count (get_or rows k None)
count_more rows k = sum_more (λ row. row.count) row_count rows k refl (λ row. refl)

flat_unfixed : (limits : FlowRow → List ℕ) (xs : List FlowRow) (o : Option FlowRow) →
    flat_map limits (filter (λ row. is_none row.level) (xs ++ option_to_list o)) ≡ flat_map limits (filter (λ row. is_none row.level) xs) ++ unfixed_limits limits o
flat_unfixed limits [] None = refl
flat_unfixed limits [] (Some row) = elim (is_none row.level) as (λ b. flat_map limits (cond b (row ∷ []) []) ≡ cond b (limits row) []) [ true ↦ append-nil (limits row) | false ↦ refl ]
flat_unfixed limits (x ∷ xs) o =
    elim (is_none x.level) as (λ b. flat_map limits (cond b (x ∷ filter (λ row. is_none row.level) (xs ++ option_to_list o)) (filter (λ row. is_none row.level) (xs ++ option_to_list o))) ≡ flat_map limits (cond b (x ∷ filter (λ row. is_none row.level) xs) (filter (λ row. is_none row.level) xs)) ++ unfixed_limits limits o) [
      | true ↦ ap (λ ys. limits x ++ ys) (flat_unfixed limits xs o) ∙ sym (append_assoc (limits x) (flat_map limits (filter (λ row. is_none row.level) xs)) (unfixed_limits limits o))
      | false ↦ flat_unfixed limits xs o
    ]

pub limits_of_more : (left waiting : List ℕ) (uses : List (Option Use)) (rows : List (Option FlowRow)) (k : ℕ) →
    all_limits left waiting uses (take (k + 1) rows) ≡ all_limits left waiting uses (take k rows) ++ unfixed_limits (row_limits left waiting uses) (get_or rows k None)
limits_of_more left waiting uses rows k =
    ap (λ xs. flat_map (row_limits left waiting uses) (filter (λ row. is_none row.level) xs)) (held_more rows k) ∙ flat_unfixed (row_limits left waiting uses) (rows_held (take k rows)) (get_or rows k None)

pub row_waiting-lt : (uses : List (Option Use)) (o : Option FlowRow) (c : ℕ) → ((row : FlowRow) → o ≡ Some row → row.weight < 2 ^ 32) → row_waiting uses o c < 2 ^ 32
row_waiting-lt uses None c light = omega arith
row_waiting-lt uses (Some row) c light = elim (is_on c (flow_of uses row) && is_none row.level) as (λ b. cond b row.weight 0 < 2 ^ 32) [ true ↦ light row refl | false ↦ omega arith ]

-- one more row counted
pub counted_more : (caps : List ℕ) (rows : List (Option FlowRow)) (uses : List (Option Use)) (left waiting left' waiting' : List ℕ) (k : ℕ) → AreCounted caps (take k rows) uses left waiting →
    length left' ≡ length left → length waiting' ≡ length waiting →
    ((c : ℕ) → get_or left' c 0 ≡ get_or left c 0 - row_taken uses (get_or rows k None) c) → ((c : ℕ) → get_or waiting' c 0 ≡ get_or waiting c 0 + row_waiting uses (get_or rows k None) c) →
    AreCounted caps (take (k + 1) rows) uses left' waiting'
counted_more caps rows uses left waiting left' waiting' k are l w off on = record {
  left_len = l ∙ are.left_len;
  waiting_len = w ∙ are.waiting_len;
  left_is = λ c in'. omega (arith, off c, are.left_is c in', taken_more rows uses c k);
  waiting_is = λ c in'. omega (arith, on c, are.waiting_is c in', waiting_more rows uses c k);
}
