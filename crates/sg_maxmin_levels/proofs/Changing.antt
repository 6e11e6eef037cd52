-- What a change of levels leaves of the holds, and when a resource holds none.
use Rattle.std.proofs.Common.{◌≡◌, ℕ, ◌+◌, ◌-◌, ◌*◌, ◌/◌, ◌<◌, ◌≤◌, ◌⊎◌, inl, inr, cond, min, lt-ltb, le-ltb, is_none, Option, None, Some, option_map, List, sum_by, slice_index, refl, sym, ap, ◌∙◌, arith, mul-le-mul_right, mul_comm, le-div_iff_mul-le, le_trans}
use Rattle.std.proofs.lemmas.Grind.{div_ceil_times}
use Rattle.sg_maxmin.specs.Chained.{users_on}
use Rattle.sg_maxmin.specs.Fill.{Flow, bounded, share_at, bound_level}
use Rattle.sg_maxmin.specs.Fixing.{share_of_fixed}
use Rattle.sg_maxmin.proofs.Members.{In}
use Rattle.sg_maxmin.proofs.Sums.{sum_by_le, sum_by-add, sum_by-mul}
use Rattle.sg_maxmin.specs.Numbered.{below_at, flow_in, level_at, row_level, row_taken, row_waiting, weight_at, when_below}
use Rattle.sg_maxmin.specs.Held.{IsAtMost, IsUnder}
use Rattle.sg_maxmin_levels.specs.Changes.{AreWithin, ChangesFrom, HoldStays, HoldStaysFrom, IsFrom, SlackHoldsNone, SlackIsAbove}
use Rattle.sg_maxmin.proofs.Listed.{lt_cases}
use Rattle.sg_maxmin.proofs.OneHold.{hold_from}
use Rattle.sg_maxmin.proofs.Users.{in_is, weighs}
use Rattle.sg_maxmin.proofs.HeldLevels.{row_same, waiting_same}

-- ---- levels that change
from_no : (least x : ℕ) (o : Option ℕ) → IsFrom least o → x ≤ least → when_below o x ≡ None
unfolding when_below
from_no least x None from less = refl
from_no least x (Some y) from less = rw (le-ltb y x (omega (arith, from, less))) refl

pub below_same : (least x : ℕ) (row : List ℕ) (old new : List (Option ℕ)) → ChangesFrom least row old new → x ≤ least → (id : ℕ) → In id row → below_at new x id ≡ below_at old x id
below_same least x row old new changes less id i = elim (changes id (in_is id row i)) [
  | inl e ↦ ap (λ o. when_below o x) e
  | inr r ↦ from_no least x (level_at new id) r.1 less ∙ sym (from_no least x (level_at old id) r.0 less)
]

up_to : (h x : ℕ) → IsUnder x (Some h) ⊎ (Some h ≡ Some x) → x ≤ h
up_to h x (inl u) = omega (arith, u)
up_to h x (inr e) = let q : h ≡ x = cc e in omega (arith, q)

pub hold_stays_lem : HoldStays
hold_stays_lem capacity slots old new row hold changes is =
    hold_from capacity slots slots old new row (Some hold)
    (λ x u. waiting_same slots (below_at new x) (below_at old x) row (below_same hold x row old new changes (up_to hold x u)))
    (λ x u. row_same capacity slots (below_at new x) (below_at old x) row (below_same hold x row old new changes (up_to hold x u))) is

under_hold : (least h : ℕ) (before : Option ℕ) → IsFrom least before → h < least → IsUnder h before
under_hold least h None from less = tt
under_hold least h (Some y) from less = omega (arith, from, less)

le_cases : (a b : ℕ) → (a ≤ b) ⊎ (b < a)
le_cases a b = grind arith

pub hold_stays_from_lem : HoldStaysFrom
hold_stays_from_lem capacity slots old new row least before None changes is from is' = tt
hold_stays_from_lem capacity slots old new row least before (Some h) changes is from is' = elim (le_cases least h) [
  | inl ok ↦ ok
  | inr less ↦
      let same = below_same least h row old new changes (omega (arith, less)) in
      let waits : 0 < row_waiting slots (below_at old h) row = omega (arith, is'.met.0, waiting_same slots (below_at new h) (below_at old h) row same) in
      absurd (omega (arith, is.above h (under_hold least h before from less) waits, row_same capacity slots (below_at new h) (below_at old h) row same, is'.met.1))
]

-- ---- slack
min_cases : (a b : ℕ) → (min a b ≡ a) ⊎ (min a b ≡ b)
min_cases a b = grind arith

-- a flow has all of its level except a part of one
nearly : (bound : Option ℕ) (w n : ℕ) → 0 < w → IsAtMost (Some n) (option_map (bound_level w) bound) → n * w ≤ bounded bound (w * n) + w
unfolding bound_level
nearly None w n pos within = omega (arith, mul_comm n w)
nearly (Some b) w n pos within = elim (min_cases b (w * n)) [
  | inl e ↦ omega (arith, e, mul-le-mul_right w within, (div_ceil_times b w pos).1)
  | inr e ↦ omega (arith, e, mul_comm n w)
]

each_fits : (f : Flow) (x : ℕ) (o : Option ℕ) → 0 < f.weight → IsAtMost o (option_map (bound_level f.weight) f.bound) →
    share_of_fixed f (when_below o x) + (x + 1) * cond (is_none (when_below o x)) f.weight 0 ≤ share_of_fixed f o + (2 * f.weight + x * cond (is_none o) f.weight 0)
unfolding when_below share_at
each_fits f x None pos within = omega (arith, more x f.weight)
  where
    more : (x w : ℕ) → (x + 1) * w ≡ x * w + w
    more x w = grind arith
each_fits f x (Some n) pos within = elim (lt_cases n x) [
  | inl less ↦ rw (lt-ltb n x less) (omega arith)
  | inr over ↦ rw (le-ltb n x over) (omega (arith, nearly f.bound f.weight n pos within, mul-le-mul_right f.weight over, more x f.weight))
]
  where
    more : (x w : ℕ) → (x + 1) * w ≡ x * w + w
    more x w = grind arith

sums_fit : (slots : List (Option Flow)) (levels : List (Option ℕ)) (row : List ℕ) (x : ℕ) → ((id : ℕ) → 0 < weight_at slots id) → AreWithin slots levels row →
    row_taken slots (below_at levels x) row + (x + 1) * row_waiting slots (below_at levels x) row ≤ row_taken slots (level_at levels) row + 2 * sum_by (weight_at slots) row + x * row_waiting slots (level_at levels) row
unfolding row_taken row_waiting
sums_fit slots levels row x pos within =
    let ta : ℕ → ℕ = λ id. share_of_fixed (flow_in slots id) (below_at levels x id) in
    let wa : ℕ → ℕ = λ id. cond (is_none (below_at levels x id)) (weight_at slots id) 0 in
    let tb : ℕ → ℕ = λ id. share_of_fixed (flow_in slots id) (level_at levels id) in
    let wb : ℕ → ℕ = λ id. cond (is_none (level_at levels id)) (weight_at slots id) 0 in
    let ww : ℕ → ℕ = λ id. 2 * weight_at slots id + x * wb id in
    omega (
      arith,
      sum_by-add ta (λ id. (x + 1) * wa id) row,
      sum_by-mul (x + 1) wa row,
      sum_by_le (λ id. ta id + (x + 1) * wa id) (λ id. tb id + ww id) row (λ id i. each_fits (flow_in slots id) x (level_at levels id) (pos id) (within id (in_is id row i))),
      sum_by-add tb ww row,
      sum_by-add (λ id. 2 * weight_at slots id) (λ id. x * wb id) row,
      sum_by-mul 2 (weight_at slots) row,
      sum_by-mul x wb row,
    )

above_from : (cap t w x : ℕ) → 0 < w → t + (x + 1) * w ≤ cap → x < (cap - t) / w
above_from cap t w x pos fits = let up : x + 1 ≤ (cap - t) / w = (le-div_iff_mul-le pos).1 (omega (arith, fits)) in omega (arith, up)

pub slack_is_above_lem : SlackIsAbove
unfolding row_level
slack_is_above_lem s levels c x sound within fits waits =
    let row = users_on s.users c in
    above_from (slice_index s.capacities c) (row_taken s.slots (below_at levels x) row) (row_waiting s.slots (below_at levels x) row) x waits
    (le_trans (sums_fit s.slots levels row x (λ id. (weighs s sound id).0) within) fits)

pub slack_holds_none_lem : SlackHoldsNone
slack_holds_none_lem s levels c sound within none fits = record {
  above = λ x u w.
      let row = users_on s.users c in
      let zero' : x * row_waiting s.slots (level_at levels) row ≡ 0 = ap (λ n. x * n) none ∙ nothing x in
      slack_is_above_lem s levels c x sound within (omega (arith, fits, zero')) w;
  met = tt;
}
  where
    nothing : (x : ℕ) → x * 0 ≡ 0
    nothing x = omega arith
