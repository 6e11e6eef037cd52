-- A sum over the flows on a resource, by their numbers, is one over all flows that are held.
use Rattle.std.proofs.Common.{◌≡◌, ◌≢◌, ℕ, zero, suc, ◌+◌, ◌-◌, ◌*◌, ◌/◌, ◌<◌, ◌≤◌, inl, inr, Bool, true, false, cond, ◌&&◌, eqb, eq-eqb, ne_eqb, is_none, Option, None, Some, List, [], ◌∷◌, length, get_or, sum_by, slice_index, ◌^◌, mul-le-mul_right, lit<, refl, sym, ap, ap₂, subst, ◌∙◌, arith}
use Rattle.std.proofs.lemmas.List.Sums.{sum_by-cons}
use Rattle.sg_maxmin.specs.Chained.{times, users_on}
use Rattle.sg_maxmin.specs.Fill.{Flow, is_on}
use Rattle.sg_maxmin.specs.Fixing.{Fixed, share_of_fixed, taken, waiting, resource_level}
use Rattle.sg_maxmin.specs.Sharing.{Sharing, IsSound, flow_at, held, uses_at}
use Rattle.sg_maxmin.specs.Numbered.{RowTells, flow_in, row_level, row_taken, row_waiting, weight_at}
use Rattle.std.specs.List.{list_any}
use Rattle.sg_maxmin.proofs.Listed.{eq_cases, times-cons, times-once}
use Rattle.sg_maxmin.proofs.Users.{on_below, rows_once, weighs}

-- ---- over the first so many numbers
total : ℕ → (ℕ → ℕ) → ℕ
total zero h = 0
total (suc n) h = total n h + h n

total_same : (n : ℕ) (g h : ℕ → ℕ) → ((i : ℕ) → i < n → g i ≡ h i) → total n g ≡ total n h
unfolding total
total_same zero g h e = refl
total_same (suc n) g h e = ap₂ (λ a b. a + b) (total_same n g h (λ i l. e i (omega (arith, l)))) (e n (omega arith))

total_add : (n : ℕ) (g h : ℕ → ℕ) → total n (λ i. g i + h i) ≡ total n g + total n h
unfolding total
total_add zero g h = refl
total_add (suc n) g h = omega (arith, total_add n g h)

total_zero : (n : ℕ) (h : ℕ → ℕ) → ((i : ℕ) → i < n → h i ≡ 0) → total n h ≡ 0
unfolding total
total_zero zero h e = refl
total_zero (suc n) h e = omega (arith, total_zero n h (λ i l. e i (omega (arith, l))), e n (omega arith))

total_one : (n x : ℕ) (h : ℕ → ℕ) → x < n → total n (λ i. cond (eqb x i) 1 0 * h i) ≡ h x
unfolding total
total_one zero x h l = absurd (omega (arith, l))
total_one (suc n) x h l = elim (eq_cases x n) [
  | inl e ↦
      let none : total n (λ i. cond (eqb x i) 1 0 * h i) ≡ 0 = total_zero n (λ i. cond (eqb x i) 1 0 * h i) (λ i k. off i (omega (arith, k, e))) in
      omega (arith, none, ap (λ b. cond {A = ℕ} b 1 0 * h n) (eq-eqb x n e), ap h e)
  | inr ne ↦ omega (arith, total_one n x h (omega (arith, l, ne)), off n (λ e. ne e))
]
  where
    off : (i : ℕ) → x ≢ i → cond (eqb x i) 1 0 * h i ≡ 0
    off i ne = rw (ne_eqb x i ne) (omega arith)

total_front : (n : ℕ) (h : ℕ → ℕ) → total (suc n) h ≡ h 0 + total n (λ i. h (suc i))
unfolding total
total_front zero h = omega arith
total_front (suc n) h = omega (arith, total_front n h)

split : (a b h : ℕ) → (a + b) * h ≡ a * h + b * h
split a b h = grind arith

-- a sum over a row, by how often each number stands in it
by_times : (n : ℕ) (h : ℕ → ℕ) (row : List ℕ) → ((i : ℕ) → i < length row → get_or row i 0 < n) → sum_by h row ≡ total n (λ id. times id row * h id)
by_times n h [] below = sym (total_zero n (λ id. times id [] * h id) (λ i l. omega arith))
by_times n h (x ∷ row) below =
    sum_by-cons h x row
    ∙ ap₂ (λ a b. a + b) (sym (total_one n x h (below 0 (omega arith)))) (by_times n h row (λ i l. below (suc i) (omega (arith, l))))
    ∙ sym (total_add n (λ id. cond (eqb x id) 1 0 * h id) (λ id. times id row * h id))
    ∙ total_same n (λ id. cond (eqb x id) 1 0 * h id + times id row * h id) (λ id. times id (x ∷ row) * h id) (λ id l. sym (ap (λ m. m * h id) (times-cons id x row) ∙ split (cond (eqb x id) 1 0) (times id row) (h id)))

abbrev slot_of : (Flow → ℕ) → Option Flow → ℕ
slot_of h None = 0
slot_of h (Some flow) = h flow

by_slots : (h : Flow → ℕ) (slots : List (Option Flow)) → total (length slots) (λ id. slot_of h (flow_at slots id)) ≡ sum_by h (held slots)
unfolding total
by_slots h [] = refl
by_slots h (None ∷ slots) = total_front (length slots) (λ id. slot_of h (flow_at (None ∷ slots) id)) ∙ plus (by_slots h slots)
  where
    plus : {a b : ℕ} → a ≡ b → 0 + a ≡ b
    plus e = omega (arith, e)
by_slots h (Some flow ∷ slots) = total_front (length slots) (λ id. slot_of h (flow_at (Some flow ∷ slots) id)) ∙ ap (λ m. h flow + m) (by_slots h slots) ∙ sym (sum_by-cons h flow (held slots))

times_cond : (b : Bool) (x : ℕ) → cond b 1 0 * x ≡ cond b x 0
times_cond true x = omega arith
times_cond false x = omega arith

-- a sum over the flows on a resource
pub by_row : (s : Sharing) → IsSound s → (h : Flow → ℕ) (c : ℕ) → sum_by (λ flow. cond (is_on c flow) (h flow) 0) (held s.slots) ≡ sum_by (λ id. h (flow_in s.slots id)) (users_on s.users c)
by_row s sound h c =
    let row = users_on s.users c in
    sym (by_times (length s.slots) (λ id. h (flow_in s.slots id)) row (on_below s sound c)
    ∙ total_same (length s.slots) (λ id. times id row * h (flow_in s.slots id)) (λ id. slot_of (λ flow. cond (is_on c flow) (h flow) 0) (flow_at s.slots id))
    (λ id l. ap (λ m. m * h (flow_in s.slots id)) (sound.both id c) ∙ each id (flow_at s.slots id) refl)
    ∙ by_slots (λ flow. cond (is_on c flow) (h flow) 0) s.slots)
  where
    each : (id : ℕ) (o : Option Flow) → flow_at s.slots id ≡ o → times c (uses_at s.slots id) * h (flow_in s.slots id) ≡ slot_of (λ flow. cond (is_on c flow) (h flow) 0) (flow_at s.slots id)
    each id None e = rw e (omega arith)
    each id (Some flow) e = rw e (ap (λ m. m * h flow) (times-once flow.uses c (sound.flows id flow e).once) ∙ times_cond (is_on c flow) (h flow))

and_cond : (a b : Bool) (n : ℕ) → cond (a && b) n 0 ≡ cond a (cond b n 0) 0
and_cond true b n = refl
and_cond false b n = refl

pub taken_row : (s : Sharing) → IsSound s → (fixed : Fixed) (c : ℕ) → taken (held s.slots) fixed c ≡ row_taken s.slots (λ id. fixed (flow_in s.slots id)) (users_on s.users c)
unfolding taken row_taken
taken_row s sound fixed c = by_row s sound (λ flow. share_of_fixed flow (fixed flow)) c

pub waiting_row : (s : Sharing) → IsSound s → (fixed : Fixed) (c : ℕ) → waiting (held s.slots) fixed c ≡ row_waiting s.slots (λ id. fixed (flow_in s.slots id)) (users_on s.users c)
unfolding waiting row_waiting
waiting_row s sound fixed c = simp and_cond (by_row s sound (λ flow. cond (is_none (fixed flow)) flow.weight 0) c)

pub row_tells_lem : RowTells
unfolding resource_level row_level
row_tells_lem s fixed c sound = ap₂ (λ t w. (slice_index s.capacities c - t) / w) (taken_row s sound fixed c) (waiting_row s sound fixed c)

-- ---- the weights on a resource fit
total_le : (n most : ℕ) (h : ℕ → ℕ) → ((i : ℕ) → h i ≤ most) → total n h ≤ n * most
unfolding total
total_le zero most h e = omega arith
total_le (suc n) most h e = omega (arith, total_le n most h e, e n, next n most)
  where
    next : (n most : ℕ) → suc n * most ≡ n * most + most
    next n most = omega arith

once_le : (b : Bool) (w most : ℕ) → w ≤ most → cond b 1 0 * w ≤ most
once_le true w most l = omega (arith, l)
once_le false w most l = omega arith

-- a sum over the flows on a resource, if each adds no more than so much
pub row_le : (s : Sharing) → IsSound s → (c : ℕ) (h : ℕ → ℕ) (most : ℕ) → ((id : ℕ) → h id ≤ most) → sum_by h (users_on s.users c) ≤ length s.slots * most
row_le s sound c h most le =
    let row = users_on s.users c in
    subst (λ n. n ≤ length s.slots * most) (sym (by_times (length s.slots) h row (on_below s sound c)))
    (total_le (length s.slots) most (λ id. times id row * h id)
    (λ id. subst (λ n. n * h id ≤ most) (sym (sound.both id c ∙ times-once (uses_at s.slots id) c (rows_once s sound id))) (once_le (list_any (λ d. eqb d c) (uses_at s.slots id)) (h id) most (le id))))

few_weights : (n w : ℕ) → w ≤ n * (2 ^ 32 - 1) → n ≤ 2 ^ 32 → w < 2 ^ 64
few_weights n w h m =
    let top : n * (2 ^ 32 - 1) ≤ 2 ^ 32 * (2 ^ 32 - 1) = mul-le-mul_right (2 ^ 32 - 1) m in
    let big : 2 ^ 32 * (2 ^ 32 - 1) < 2 ^ 64 = lit< tt in
    omega (arith, h, top, big)

pub weights_fit : (s : Sharing) → IsSound s → (c : ℕ) → sum_by (weight_at s.slots) (users_on s.users c) < 2 ^ 64
weights_fit s sound c =
    few_weights (length s.slots) (sum_by (weight_at s.slots) (users_on s.users c)) (row_le s sound c (weight_at s.slots) (2 ^ 32 - 1) (λ id. fits (weight_at s.slots id) (weighs s sound id).1)) sound.few
  where
    fits : (w : ℕ) → w < 2 ^ 32 → w ≤ 2 ^ 32 - 1
    fits w l = omega (arith, l)

-- two rows in which each number stands as often have the same sums
pub sum_listed : (n : ℕ) (h : ℕ → ℕ) (row row' : List ℕ) → ((i : ℕ) → i < length row → get_or row i 0 < n) → ((i : ℕ) → i < length row' → get_or row' i 0 < n) → ((id : ℕ) → times id row' ≡ times id row) → sum_by h row' ≡ sum_by h row
sum_listed n h row row' b b' same = by_times n h row' b' ∙ total_same n (λ id. times id row' * h id) (λ id. times id row * h id) (λ id l. ap (λ m. m * h id) (same id)) ∙ sym (by_times n h row b)

-- and two rows in which each number that counts stands as often
pub sum_weighed : (n : ℕ) (h : ℕ → ℕ) (row row' : List ℕ) → ((i : ℕ) → i < length row → get_or row i 0 < n) → ((i : ℕ) → i < length row' → get_or row' i 0 < n) → ((id : ℕ) → times id row' * h id ≡ times id row * h id) → sum_by h row' ≡ sum_by h row
sum_weighed n h row row' b b' same = by_times n h row' b' ∙ total_same n (λ id. times id row' * h id) (λ id. times id row * h id) (λ id l. same id) ∙ sym (by_times n h row b)
