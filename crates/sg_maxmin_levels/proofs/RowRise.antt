-- As flows of higher levels are fixed, the level of a resource doesn't fall.
use Rattle.std.proofs.Common.{◌≡◌, ℕ, suc, ◌+◌, ◌-◌, ◌*◌, ◌/◌, ◌<◌, ◌≤◌, ◌⊎◌, inl, inr, true, cond, lt-ltb, le-ltb, is_none, Option, None, Some, IfSome, List, [], ◌∷◌, length, mul-le-mul_right, get_or, take, sum_by, refl, sym, ap, ap₂, subst, ◌∙◌, arith, div-mul-le_self, le_trans, div-le_self}
use Rattle.std.proofs.lemmas.List.Sums.{sum_by-cons}
use Rattle.sg_maxmin.specs.Fill.{Flow}
use Rattle.sg_maxmin.specs.Fixing.{share_of_fixed}
use Rattle.sg_maxmin.proofs.Members.{In}
use Rattle.sg_maxmin.proofs.Sums.{sum_by_le, sum_by-add, sum_by-mul, sum_by_same}
use Rattle.sg_maxmin.specs.Numbered.{below_at, flow_in, level_at, row_level, row_taken, row_waiting, weight_at, when_below}
use Rattle.sg_maxmin.specs.Held.{IsHold}
use Rattle.sg_maxmin.proofs.Listed.{lt_cases, part_le, part_next}
use Rattle.sg_maxmin.proofs.Balance.{moved, three, level_kept}

-- ---- a row, one more flow at a time
one_more : (k : ℕ) → k + 1 ≡ suc k
one_more k = omega arith

pub taken_next : (slots : List (Option Flow)) (fixed : ℕ → Option ℕ) (row : List ℕ) (k : ℕ) → k < length row →
    row_taken slots fixed (take (suc k) row) ≡ row_taken slots fixed (take k row) + share_of_fixed (flow_in slots (get_or row k 0)) (fixed (get_or row k 0))
unfolding row_taken
taken_next slots fixed row k h =
    let f : ℕ → ℕ = λ id. share_of_fixed (flow_in slots id) (fixed id) in
    ap (λ n. sum_by f (take n row)) (sym (one_more k)) ∙ part_next f row k h

pub waiting_next : (slots : List (Option Flow)) (fixed : ℕ → Option ℕ) (row : List ℕ) (k : ℕ) → k < length row →
    row_waiting slots fixed (take (suc k) row) ≡ row_waiting slots fixed (take k row) + cond (is_none (fixed (get_or row k 0))) (weight_at slots (get_or row k 0)) 0
unfolding row_waiting
waiting_next slots fixed row k h =
    let f : ℕ → ℕ = λ id. cond (is_none (fixed id)) (weight_at slots id) 0 in
    ap (λ n. sum_by f (take n row)) (sym (one_more k)) ∙ part_next f row k h

cond_le : (o : Option ℕ) (w : ℕ) → cond (is_none o) w 0 ≤ w
cond_le None w = omega arith
cond_le (Some x) w = omega arith

-- what waits among the first ones, and the next one's weight, are no more than all weights
pub room_next : (slots : List (Option Flow)) (fixed : ℕ → Option ℕ) (row : List ℕ) (k : ℕ) → k < length row → row_waiting slots fixed (take k row) + weight_at slots (get_or row k 0) ≤ sum_by (weight_at slots) row
unfolding row_waiting
room_next slots fixed row k h =
    omega (arith, part_le (weight_at slots) row k h, sum_by_le (λ id. cond (is_none (fixed id)) (weight_at slots id) 0) (weight_at slots) (take k row) (λ id i. cond_le (fixed id) (weight_at slots id)))

-- ---- levels between x and y
where_is : (o : Option ℕ) (x y : ℕ) → x ≤ y →
    (n : ℕ) × (((n < x) × (when_below o x ≡ Some n) × (when_below o y ≡ Some n)) ⊎ (((x ≤ n) × (n < y) × (when_below o x ≡ None) × (when_below o y ≡ Some n)) ⊎ ((when_below o x ≡ None) × (when_below o y ≡ None))))
unfolding when_below
where_is None x y less = (0, inr (inr (refl, refl)))
where_is (Some n) x y less = (
  n,
  elim (three n x y) [
    | inl h ↦ inl (h, rw (lt-ltb n x h) refl, rw (lt-ltb n y (omega (arith, h, less))) refl)
    | inr (inl h) ↦ inr (inl (h.0, h.1, rw (le-ltb n x h.0) refl, rw (lt-ltb n y h.1) refl))
    | inr (inr h) ↦ inr (inr (rw (le-ltb n x (omega (arith, h, less))) refl, rw (le-ltb n y h) refl))
  ],
)

row_moves : (slots : List (Option Flow)) (levels : List (Option ℕ)) (row : List ℕ) (x y q : ℕ) → x ≤ y → y ≤ q + 1 →
    let a = below_at levels x in let b = below_at levels y in
    (row_taken slots b row + q * row_waiting slots b row ≤ row_taken slots a row + q * row_waiting slots a row) × (row_waiting slots b row ≤ row_waiting slots a row)
unfolding row_taken row_waiting
row_moves slots levels row x y q less most =
    let a = below_at levels x in
    let b = below_at levels y in
    let each = λ (id : ℕ). let w = where_is (level_at levels id) x y less in moved x y q less most (flow_in slots id) true w.0 (a id) (b id) w.1 in
    let ta = λ (id : ℕ). share_of_fixed (flow_in slots id) (a id) in
    let tb = λ (id : ℕ). share_of_fixed (flow_in slots id) (b id) in
    let wa = λ (id : ℕ). cond (is_none (a id)) (weight_at slots id) 0 in
    let wb = λ (id : ℕ). cond (is_none (b id)) (weight_at slots id) 0 in (
      omega (arith, sum_by-mul q wb row, sum_by-add tb (λ id. q * wb id) row, sum_by_le (λ id. tb id + q * wb id) (λ id. ta id + q * wa id) row (λ id i. (each id).0), sum_by-add ta (λ id. q * wa id) row, sum_by-mul q wa row),
      sum_by_le wb wa row (λ id i. (each id).1),
    )

pub waits_less : (slots : List (Option Flow)) (levels : List (Option ℕ)) (row : List ℕ) (x y : ℕ) → x ≤ y → row_waiting slots (below_at levels y) row ≤ row_waiting slots (below_at levels x) row
waits_less slots levels row x y less = (row_moves slots levels row x y y less (omega arith)).1

pub row_rises : (capacity : ℕ) (slots : List (Option Flow)) (levels : List (Option ℕ)) (row : List ℕ) (x y : ℕ) → x ≤ y → y ≤ row_level capacity slots (below_at levels x) row + 1 → 0 < row_waiting slots (below_at levels y) row →
    row_level capacity slots (below_at levels x) row ≤ row_level capacity slots (below_at levels y) row
unfolding row_level
row_rises capacity slots levels row x y less most pos =
    let a = below_at levels x in
    let b = below_at levels y in
    let q = (capacity - row_taken slots a row) / row_waiting slots a row in
    let m = row_moves slots levels row x y q less most in
    level_kept capacity (row_taken slots a row) (row_waiting slots a row) (row_taken slots b row) (row_waiting slots b row) q pos m.1 m.0 (div-mul-le_self (capacity - row_taken slots a row) (row_waiting slots a row))

-- ---- on the way to the hold: each level below `low` is exceeded, and low itself is reached
pub record IsOnWay (capacity : ℕ) (slots : List (Option Flow)) (levels : List (Option ℕ)) (row : List ℕ) (low : ℕ) : Type 0 where
  pub above : (x : ℕ) → x < low → 0 < row_waiting slots (below_at levels x) row → x < row_level capacity slots (below_at levels x) row
  pub reached : 0 < row_waiting slots (below_at levels low) row → low ≤ row_level capacity slots (below_at levels low) row

module _ (capacity : ℕ) (slots : List (Option Flow)) (levels : List (Option ℕ)) (row : List ℕ) where
  pub way_starts : IsOnWay capacity slots levels row 0
  way_starts = record { above = λ x h w. absurd (omega (arith, h)); reached = λ w. omega arith }

  -- from a level to that of the resource there
  pub way_on : (low : ℕ) → 0 < row_waiting slots (below_at levels low) row → IsOnWay capacity slots levels row low → IsOnWay capacity slots levels row (row_level capacity slots (below_at levels low) row)
  way_on low pos way =
      let l = row_level capacity slots (below_at levels low) row in
      let up = way.reached pos in
      record {
        above = λ x h w. elim (lt_cases x low) [
          | inl under ↦ way.above x under w
          | inr over ↦ omega (arith, h, row_rises capacity slots levels row low x over (omega (arith, h)) w)
        ];
        reached = λ w. row_rises capacity slots levels row low l up (omega arith) w;
      }

  -- if nothing waits there is no hold
  pub way_none : (low : ℕ) → IsOnWay capacity slots levels row low → row_waiting slots (below_at levels low) row ≡ 0 → IsHold capacity slots levels row None
  way_none low way none = record {
    above = λ x u w. elim (lt_cases x low) [ inl under ↦ way.above x under w | inr over ↦ absurd (omega (arith, waits_less slots levels row low x over, none, w)) ];
    met = tt;
  }

  pub way_ends : (low : ℕ) → IsOnWay capacity slots levels row low → 0 < row_waiting slots (below_at levels low) row → row_level capacity slots (below_at levels low) row ≡ low → IsHold capacity slots levels row (Some low)
  way_ends low way pos is = record { above = λ x u w. way.above x u w; met = (pos, is) }

-- ---- an empty row, and a level's greatest
pub taken_none : (slots : List (Option Flow)) (fixed : ℕ → Option ℕ) (row : List ℕ) → row_taken slots fixed (take 0 row) ≡ 0
unfolding row_taken
taken_none slots fixed row = refl

pub waiting_none : (slots : List (Option Flow)) (fixed : ℕ → Option ℕ) (row : List ℕ) → row_waiting slots fixed (take 0 row) ≡ 0
unfolding row_waiting
waiting_none slots fixed row = refl

pub level_le : (capacity : ℕ) (slots : List (Option Flow)) (fixed : ℕ → Option ℕ) (row : List ℕ) → row_level capacity slots fixed row ≤ capacity
unfolding row_level
level_le capacity slots fixed row = le_trans (div-le_self (capacity - row_taken slots fixed row) (row_waiting slots fixed row)) (less capacity (row_taken slots fixed row))
  where
    less : (a b : ℕ) → a - b ≤ a
    less a b = omega arith

pub level_from : (capacity : ℕ) (slots : List (Option Flow)) (fixed : ℕ → Option ℕ) (left waiting : ℕ) (row : List ℕ) (level : Option ℕ) → left ≡ capacity - row_taken slots fixed row → waiting ≡ row_waiting slots fixed row → IfSome level (λ x. (0 < waiting) × (x ≡ left / waiting)) → IfSome level (λ x. (0 < row_waiting slots fixed row) × (x ≡ row_level capacity slots fixed row))
unfolding row_level
level_from capacity slots fixed left waiting row None l w is = tt
level_from capacity slots fixed left waiting row (Some x) l w is = (subst (λ n. 0 < n) w is.0, is.1 ∙ ap₂ (λ a b. a / b) l w)

-- ---- how many flows of a row wait
abbrev pub waits : List (Option ℕ) → ℕ → ℕ → ℕ
waits levels low id = cond (is_none (below_at levels low id)) 1 0

abbrev pub row_count : List (Option ℕ) → ℕ → List ℕ → ℕ
row_count levels low row = sum_by (waits levels low) row

count_le : (levels : List (Option ℕ)) (low : ℕ) (row : List ℕ) → row_count levels low row ≤ length row
count_le levels low [] = omega arith
count_le levels low (id ∷ row) = omega (arith, sum_by-cons (waits levels low) id row, count_le levels low row, cond_le (below_at levels low id) 1)

head_cases : (o : Option ℕ) (x y : ℕ) → x ≤ y → (when_below o y ≡ when_below o x) ⊎ (cond (is_none (when_below o y)) 1 0 < cond (is_none (when_below o x)) 1 0)
head_cases o x y less = elim (where_is o x y less).1 [
  | inl r ↦ inl (r.2 ∙ sym r.1)
  | inr (inl r) ↦ inr (rw (r.2, r.3) (omega arith))
  | inr (inr r) ↦ inl (r.1 ∙ sym r.0)
]

head_le : (o : Option ℕ) (x y : ℕ) → x ≤ y → cond (is_none (when_below o y)) 1 0 ≤ cond (is_none (when_below o x)) 1 0
head_le o x y less = elim (head_cases o x y less) [ inl e ↦ omega (arith, ap {B = ℕ} (λ w. cond (is_none w) 1 0) e) | inr lt ↦ omega (arith, lt) ]

-- from x to y fewer wait, or nothing changes
pub fewer : (levels : List (Option ℕ)) (x y : ℕ) → x ≤ y → (row : List ℕ) → (row_count levels y row < row_count levels x row) ⊎ ((id : ℕ) → In id row → below_at levels y id ≡ below_at levels x id)
fewer levels x y less [] = inr (λ id i. absurd i)
fewer levels x y less (id ∷ row) = elim (fewer levels x y less row) [
  | inl more ↦ inl (omega (arith, sum_by-cons (waits levels y) id row, sum_by-cons (waits levels x) id row, more, head_le (level_at levels id) x y less))
  | inr same ↦ elim (head_cases (level_at levels id) x y less) [
    | inl e ↦ inr (λ other i. elim i [ inl q ↦ subst (λ n. below_at levels y n ≡ below_at levels x n) q e | inr j ↦ same other j ])
    | inr lt ↦
        let rest : row_count levels y row ≡ row_count levels x row = sum_by_same (waits levels y) (waits levels x) row (λ n i. ap {B = ℕ} (λ w. cond (is_none w) 1 0) (same n i)) in
        inl (omega (arith, sum_by-cons (waits levels y) id row, sum_by-cons (waits levels x) id row, lt, rest))
  ]
]

-- so many visits; the next pass over the users may be the last
abbrev pub Looked : List (Option ℕ) → List ℕ → ℕ → Option ℕ → ℕ → ℕ → Type 0
Looked levels row low next before after =
    (after + row_count levels low row * length row ≤ before + (length row + 1) * length row)
    ⊎ ((after + row_count levels low row * length row ≤ before + (length row + 2) * length row) × (next ≡ Some low))

more_times : (n m : ℕ) → (n + 1) * m ≡ n * m + m
more_times n m = grind arith

more_twice : (n m : ℕ) → (n + 2) * m ≡ n * m + (m + m)
more_twice n m = grind arith

pub looked_first : (levels : List (Option ℕ)) (row : List ℕ) (next : Option ℕ) (before after : ℕ) → after ≡ before + length row → Looked levels row 0 next before after
looked_first levels row next before after e = inl (omega (arith, e, more_times (length row) (length row), mul-le-mul_right (length row) (count_le levels 0 row)))

pub looked_all : (levels : List (Option ℕ)) (row : List ℕ) (low : ℕ) (next : Option ℕ) (before after : ℕ) → Looked levels row low next before after → after ≤ before + (length row + 2) * length row
looked_all levels row low next before after (inl h) = omega (arith, h, more_times (length row) (length row), more_twice (length row) (length row))
looked_all levels row low next before after (inr h) = omega (arith, h.0)

pub looked_next : (levels : List (Option ℕ)) (row : List ℕ) (low new : ℕ) (next next' : Option ℕ) (before now after : ℕ) → low ≤ new → after ≡ now + length row → (next ≡ Some low → ⊥) →
    (((id : ℕ) → In id row → below_at levels new id ≡ below_at levels low id) → next' ≡ Some new) →
    Looked levels row low next before now → Looked levels row new next' before after
looked_next levels row low new next next' before now after less e on same (inr h) = absurd (on h.1)
looked_next levels row low new next next' before now after less e on same (inl h) = elim (fewer levels low new less row) [
  | inl fewer' ↦
      let one : row_count levels new row + 1 ≤ row_count levels low row = omega (arith, fewer') in
      inl (omega (arith, h, e, mul-le-mul_right (length row) one, more_times (row_count levels new row) (length row)))
  | inr still ↦
      let count : row_count levels new row ≡ row_count levels low row = sum_by_same (waits levels new) (waits levels low) row (λ n i. ap {B = ℕ} (λ w. cond (is_none w) 1 0) (still n i)) in
      inr (omega (arith, h, e, ap (λ n. n * length row) count, more_times (length row) (length row), more_twice (length row) (length row)), same still)
]
