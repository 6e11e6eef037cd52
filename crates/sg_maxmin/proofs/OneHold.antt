-- A resource has one hold, and it depends on the capacity, the flows on the resource and their levels alone.
use Rattle.std.proofs.Common.{◌≡◌, ℕ, ◌-◌, ◌/◌, ◌⊎◌, inl, inr, cond, is_none, Option, None, Some, List, refl, ap, ap₂, ◌∙◌, arith}
use Rattle.sg_maxmin.specs.Fill.{Flow, flow}
use Rattle.sg_maxmin.specs.Fixing.{share_of_fixed}
use Rattle.sg_maxmin.specs.Sharing.{uses_in}
use Rattle.sg_maxmin.proofs.Sums.{sum_by_same}
use Rattle.sg_maxmin.specs.Numbered.{below_at, row_level, row_taken, row_waiting, slot_bound, slot_weight, when_below}
use Rattle.sg_maxmin.specs.Held.{IsHold, IsUnder, HoldIsLocal, HoldIsOne, IsSameRow}
use Rattle.sg_maxmin.proofs.Users.{in_is}
use Rattle.sg_maxmin.proofs.HeldLevels.{three}

-- ---- one hold
pub hold_is_one_lem : HoldIsOne
hold_is_one_lem capacity slots levels row None None a b = refl
hold_is_one_lem capacity slots levels row None (Some k) a b = absurd (omega (arith, a.above k tt b.met.0, b.met.1))
hold_is_one_lem capacity slots levels row (Some h) None a b = absurd (omega (arith, b.above h tt a.met.0, a.met.1))
hold_is_one_lem capacity slots levels row (Some h) (Some k) a b = elim (three h k) [
  | inl less ↦ absurd (omega (arith, b.above h less a.met.0, a.met.1))
  | inr (inl e) ↦ ap (λ x. Some x) e
  | inr (inr more) ↦ absurd (omega (arith, a.above k more b.met.0, b.met.1))
]

-- ---- what it depends on
abbrev flow_of : Option Flow → Flow
flow_of o = flow (uses_in o) (slot_weight o) (slot_bound o)

local_level : (capacity : ℕ) (slots slots' : List (Option Flow)) (levels levels' : List (Option ℕ)) (row : List ℕ) (x : ℕ) → IsSameRow row slots slots' levels levels' →
    row_level capacity slots' (below_at levels' x) row ≡ row_level capacity slots (below_at levels x) row
unfolding row_level row_taken row_waiting
local_level capacity slots slots' levels levels' row x same =
    ap₂ (λ t w. (capacity - t) / w)
    (sum_by_same _ _ row (λ id i. let s = same id (in_is id row i) in ap₂ (λ f o. share_of_fixed (flow_of f) (when_below o x)) s.0 s.1))
    (sum_by_same _ _ row (λ id i. let s = same id (in_is id row i) in ap₂ (λ f o. cond (is_none (when_below o x)) (slot_weight f) 0) s.0 s.1))

local_waiting : (slots slots' : List (Option Flow)) (levels levels' : List (Option ℕ)) (row : List ℕ) (x : ℕ) → IsSameRow row slots slots' levels levels' → row_waiting slots' (below_at levels' x) row ≡ row_waiting slots (below_at levels x) row
unfolding row_waiting
local_waiting slots slots' levels levels' row x same = sum_by_same _ _ row (λ id i. let s = same id (in_is id row i) in ap₂ (λ f o. cond (is_none (when_below o x)) (slot_weight f) 0) s.0 s.1)

-- if both are the same at each level up to the hold, so is the hold
pub hold_from : (capacity : ℕ) (slots slots' : List (Option Flow)) (levels levels' : List (Option ℕ)) (row : List ℕ) (hold : Option ℕ) →
    ((x : ℕ) → IsUnder x hold ⊎ (hold ≡ Some x) → row_waiting slots' (below_at levels' x) row ≡ row_waiting slots (below_at levels x) row) →
    ((x : ℕ) → IsUnder x hold ⊎ (hold ≡ Some x) → row_level capacity slots' (below_at levels' x) row ≡ row_level capacity slots (below_at levels x) row) →
    IsHold capacity slots levels row hold → IsHold capacity slots' levels' row hold
hold_from capacity slots slots' levels levels' row None waiting level is = record { above = λ x u w. omega (arith, level x (inl u), is.above x u (omega (arith, waiting x (inl u), w))); met = tt }
hold_from capacity slots slots' levels levels' row (Some h) waiting level is = record {
  above = λ x u w. omega (arith, level x (inl u), is.above x u (omega (arith, waiting x (inl u), w)));
  met = (omega (arith, waiting h (inr refl), is.met.0), level h (inr refl) ∙ is.met.1);
}

pub hold_is_local_lem : HoldIsLocal
hold_is_local_lem capacity slots slots' levels levels' row hold same is =
    hold_from capacity slots slots' levels levels' row hold (λ x u. local_waiting slots slots' levels levels' row x same) (λ x u. local_level capacity slots slots' levels levels' row x same) is
