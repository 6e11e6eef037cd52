-- Whether an activity is running.
use Rattle.std.proofs.Common.{◌≡◌, ℕ, zero, suc, ◌+◌, ◌-◌, ◌==◌, ◌<◌, ◌≤◌, ◌⊎◌, inl, inr, Bool, true, false, true≢false, not, ◌||◌, count_by, Option, None, List, [], ◌∷◌, get_or, refl, sym, ap, ap₂, ◌∙◌, arith}
use Rattle.std.specs.List.{list_any}
use Rattle.sg_activity_table.specs.Slots.{passes}
use Rattle.sg_activity_table.specs.Kinds.{is_held}
use Rattle.sg_activity.specs.Task.{Task}
use Rattle.sg_activity.specs.Underway.{is_running}
use Rattle.sg_activity_table.specs.Pool.{goes_on}
use Rattle.sg_activity.specs.kept.State.{State, task_of, told_at, told_by, under_of}
use Rattle.sg_activity.specs.kept.Sound.{IsKept}
use Rattle.sg_activity_table.proofs.Listed.{at_listed, past_listed}
use Rattle.sg_activity.proofs.Lookup.{sought, told_found, told_missed}
use Rattle.sg_activity_table.proofs.Pooled.{none_counts, some_counts}
use Rattle.sg_activity.proofs.Rates.{task_there}

any_none : (xs : List (Option Task)) → ((i : ℕ) → passes (λ (task : Task). not (is_held task.kind)) (get_or xs i None) ≡ false) → list_any (passes (λ (task : Task). not (is_held task.kind))) xs ≡ false
any_none [] h = refl
any_none (x ∷ xs) h = ap₂ (λ a b. a || b) (h 0) (any_none xs (λ i. h (suc i)))

any_there : (xs : List (Option Task)) (i : ℕ) → passes (λ (task : Task). not (is_held task.kind)) (get_or xs i None) ≡ true → list_any (passes (λ (task : Task). not (is_held task.kind))) xs ≡ true
any_there [] i e = absurd (true≢false (sym e))
any_there (x ∷ xs) zero e = ap (λ b. b || list_any (passes (λ (task : Task). not (is_held task.kind))) xs) e
any_there (x ∷ xs) (suc i) e = ap (λ b. passes (λ (task : Task). not (is_held task.kind)) x || b) (any_there xs i e) ∙ or_true (passes (λ (task : Task). not (is_held task.kind)) x)
  where
    or_true : (b : Bool) → (b || true) ≡ true
    or_true true = refl
    or_true false = refl

zero_or : (n : ℕ) → (n ≡ 0) ⊎ (0 < n)
zero_or n = grind arith

eqb_yes : (n : ℕ) → n ≡ 0 → not (n == 0) ≡ false
eqb_yes n e = grind arith

eqb_no : (n : ℕ) → 0 < n → not (n == 0) ≡ true
eqb_no n h = grind arith

less_or : (i n : ℕ) → (i < n) ⊎ (n ≤ i)
less_or i n = grind arith

pub any_told : (s : State) → IsKept s → not (count_by (passes goes_on) s.slots == 0) ≡ is_running (under_of s)
any_told s is = elim (zero_or (count_by (passes goes_on) s.slots)) [
  | inl none ↦
      let idle = none_counts s.slots none in
      eqb_yes (count_by (passes goes_on) s.slots) none
      ∙ sym (any_none (told_by (task_of s) s) (λ i. elim (less_or i s.drawn) [
        | inl less ↦ ap (passes (λ (task : Task). not (is_held task.kind))) (at_listed s.drawn (λ j. told_at (task_of s) s.slots (j + 1)) i None less) ∙ elim (sought s.slots (i + 1)) [
          | inl f ↦ ap (passes (λ (task : Task). not (is_held task.kind))) (told_found (task_of s) s.slots (i + 1) f.key f.live is.apart f.at f.is) ∙ sym (ap (passes goes_on) f.at) ∙ idle f.key
          | inr missing ↦ ap (passes (λ (task : Task). not (is_held task.kind))) (told_missed (task_of s) s.slots (i + 1) missing)
        ]
        | inr more ↦ ap (passes (λ (task : Task). not (is_held task.kind))) (past_listed s.drawn (λ j. told_at (task_of s) s.slots (j + 1)) i None more)
      ]))
  | inr some ↦
      let r = some_counts s.slots some in
      eqb_no (count_by (passes goes_on) s.slots) some ∙ sym (any_there (told_by (task_of s) s) (r.1.serial - 1) (ap (passes (λ (task : Task). not (is_held task.kind))) (task_there s is r.0 r.1 r.2) ∙ r.3))
]
