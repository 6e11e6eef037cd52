-- The fallback: the connected components of all that changed are solved, and all flows are held.
use Rattle.std.proofs.Common.{◌≡◌, ℕ, zero, suc, ◌-◌, ◌<◌, ◌≤◌, ◌⊎◌, inl, inr, Bool, true, false, true≢false, cond, IsTrue, Option, None, Some, option_map, List, [], ◌∷◌, map, length, slice_index, refl, sym, ap, subst, ◌∙◌, arith}
use Rattle.sg_base.specs.MarkSet.{is_in}
use Rattle.sg_maxmin.specs.Chained.{users_on}
use Rattle.sg_maxmin.specs.Fill.{Flow, level_of}
use Rattle.sg_maxmin.specs.Sharing.{Sharing, IsSound, flow_at, held, uses_at}
use Rattle.sg_maxmin_levels.specs.declared.levels.Levels.{Levels}
use Rattle.sg_maxmin.specs.Numbered.{below_at, bound_of, flow_in, level_at, row_level, row_waiting}
use Rattle.sg_maxmin.specs.Held.{AreFilled, AreHeld, IsAtMost, IsCause, IsHold, by_bound, by_resource}
use Rattle.sg_maxmin_levels.specs.Settling.{HasCause, at_bound, at_hold, is_active}
use Rattle.sg_maxmin_levels.specs.Kept.{IsBetween, IsRefilled, IsWithin, WayBack}
use Rattle.sg_maxmin.specs.Found.{PassAlong}
use Rattle.sg_maxmin.proofs.Listed.{bool_cases}
use Rattle.sg_maxmin.proofs.Users.{in_is, is_in_In, uses_held}
use Rattle.sg_maxmin.proofs.HeldLevels.{users_of}
use Rattle.sg_maxmin_levels.proofs.RowRise.{IsOnWay, way_starts, way_on, way_none, way_ends, level_le}
use Rattle.sg_maxmin.proofs.OneHold.{hold_is_local_lem}
use Rattle.sg_maxmin.proofs.Converse.{filling_is_held_lem}
use Rattle.sg_maxmin_levels.proofs.Steps.{held_user, uses_row, settling_ends_lem}

-- ---- each resource has a hold
nat_cases : (m n : ℕ) → m ≤ n → (m ≡ n) ⊎ (m < n)
nat_cases m n le = grind arith

zero_cases : (n : ℕ) → (n ≡ 0) ⊎ (0 < n)
zero_cases n = grind arith

module _ (capacity : ℕ) (slots : List (Option Flow)) (levels : List (Option ℕ)) (row : List ℕ) where
  step : (low : ℕ) → IsOnWay capacity slots levels row low → ((hold : Option ℕ) × IsHold capacity slots levels row hold) ⊎ ((0 < row_waiting slots (below_at levels low) row) × (low < row_level capacity slots (below_at levels low) row))
  step low way = elim (zero_cases (row_waiting slots (below_at levels low) row)) [
    | inl none ↦ inl (None, way_none capacity slots levels row low way none)
    | inr pos ↦ elim (nat_cases low (row_level capacity slots (below_at levels low) row) (way.reached pos)) [
      | inl is ↦ inl (Some low, way_ends capacity slots levels row low way pos (sym is))
      | inr more ↦ inr (pos, more)
    ]
  ]

  hold_from : (fuel low : ℕ) → capacity - low ≤ fuel → IsOnWay capacity slots levels row low → (hold : Option ℕ) × IsHold capacity slots levels row hold
  hold_from zero low fits way = elim (step low way) [ inl found ↦ found | inr more ↦ absurd (omega (arith, fits, more.1, level_le capacity slots (below_at levels low) row)) ]
  hold_from (suc fuel) low fits way = elim (step low way) [
    | inl found ↦ found
    | inr more ↦ hold_from fuel (row_level capacity slots (below_at levels low) row) (omega (arith, fits, more.1, level_le capacity slots (below_at levels low) row)) (way_on capacity slots levels row low more.0 way)
  ]

  has_hold : (hold : Option ℕ) × IsHold capacity slots levels row hold
  has_hold = hold_from capacity 0 (omega arith) (way_starts capacity slots levels row)

-- ---- the max-min levels of all flows
filled : List (Option Flow) → (Flow → ℕ) → List (Option ℕ)
filled slots level = map (option_map level) slots

filled_at : (slots : List (Option Flow)) (level : Flow → ℕ) (id : ℕ) → level_at (filled slots level) id ≡ option_map level (flow_at slots id)
unfolding filled
filled_at [] level id = refl
filled_at (slot ∷ slots) level zero = refl
filled_at (slot ∷ slots) level (suc id) = filled_at slots level id

module _ (s : Sharing) (sound : IsSound s) (old new : Levels) (p q : ℕ → Bool) (between : IsBetween s old) (along : PassAlong s p q) (within : IsWithin p q old) (done : IsRefilled s p q old new) where
  abbrev all : List (Option ℕ)
  all = filled s.slots (level_of s.capacities (held s.slots))

  are_filled : AreFilled s all
  are_filled id flow e = filled_at s.slots (level_of s.capacities (held s.slots)) id ∙ ap (option_map (level_of s.capacities (held s.slots))) e

  here_same : (id : ℕ) (flow : Flow) → flow_at s.slots id ≡ Some flow → IsTrue (p id) → level_at all id ≡ level_at new.levels.items id
  here_same id flow e here = are_filled id flow e ∙ sym (done.filled id flow e here)

  abbrev holds : ℕ → Option ℕ
  holds c = cond (q c) (level_at new.holds.items c) (has_hold (slice_index s.capacities c) s.slots all (users_on s.users c)).0

  holds_here : (c : ℕ) → q c ≡ true → holds c ≡ level_at new.holds.items c
  holds_here c e = ap (λ b. cond b (level_at new.holds.items c) (has_hold (slice_index s.capacities c) s.slots all (users_on s.users c)).0) e

  holds_are : (c : ℕ) → c < length s.capacities → IsHold (slice_index s.capacities c) s.slots all (users_on s.users c) (holds c)
  holds_are c below = elim (bool_cases (q c)) [
    | inl here ↦ subst (IsHold (slice_index s.capacities c) s.slots all (users_on s.users c)) (sym (holds_here c here))
        (hold_is_local_lem (slice_index s.capacities c) s.slots s.slots new.levels.items all (users_on s.users c) (level_at new.holds.items c)
        (λ id i. (refl, here_same id (flow_in s.slots id) (held_user s sound c id i) (along.users c id here i))) (done.held_at c below here))
    | inr away ↦ subst (IsHold (slice_index s.capacities c) s.slots all (users_on s.users c)) (sym (ap (λ b. cond b (level_at new.holds.items c) (has_hold (slice_index s.capacities c) s.slots all (users_on s.users c)).0) away)) (has_hold (slice_index s.capacities c) s.slots all (users_on s.users c)).1
  ]

  whole : AreHeld s all holds
  whole = filling_is_held_lem s all holds sound are_filled holds_are

  -- ---- a flow outside the component
  away_uses : (id r : ℕ) (flow : Flow) → flow_at s.slots id ≡ Some flow → is_in r flow.uses ≡ true → p id ≡ false → q r ≡ false
  away_uses id r flow e u away = elim (bool_cases (q r)) [
    | inl here ↦ absurd (true≢false (sym (along.users r id here (in_is id (users_on s.users r) (users_of s sound id r flow e (is_in_In r flow.uses u)))) ∙ away))
    | inr off ↦ off
  ]

  not_active : (r : ℕ) → q r ≡ false → is_active old.active.members r ≡ false
  not_active r away = elim (bool_cases (is_active old.active.members r)) [ inl on ↦ absurd (true≢false (sym (within.active r on) ∙ away)) | inr off ↦ off ]

  not_stale : (id : ℕ) → p id ≡ false → is_in id old.stale.members ≡ false
  not_stale id away = elim (bool_cases (is_in id old.stale.members)) [ inl on ↦ absurd (true≢false (sym (within.stale id on) ∙ away)) | inr off ↦ off ]

  away_row : (r id : ℕ) → q r ≡ false → is_in id (users_on s.users r) ≡ true → p id ≡ false
  away_row r id away i = elim (bool_cases (p id)) [ inl here ↦ absurd (true≢false (sym (along.uses id r here (uses_row s sound r id i)) ∙ away)) | inr off ↦ off ]

  cause_here : (id : ℕ) (flow : Flow) → flow_at s.slots id ≡ Some flow → p id ≡ true → (x : ℕ) → IsCause holds flow x → IsCause (level_at new.holds.items) flow x
  cause_here id flow e here x (by_bound k) = by_bound k
  cause_here id flow e here x (by_resource r u k) = by_resource r u (sym (holds_here r (along.uses id r here (ap (is_in r) (uses_held s.slots id flow e) ∙ u))) ∙ k)

  cause_away : (id : ℕ) (flow : Flow) → flow_at s.slots id ≡ Some flow → p id ≡ false → HasCause old.holds.items flow (level_at old.levels.items id) → HasCause new.holds.items flow (level_at new.levels.items id)
  cause_away id flow e away (at_bound k) = at_bound (k ∙ sym (done.other_flows id away))
  cause_away id flow e away (at_hold r u k) = at_hold r u (done.other_resources r (away_uses id r flow e u away) ∙ k ∙ sym (done.other_flows id away))

  caused : (holds : List (Option ℕ)) (flow : Flow) (x : ℕ) (o : Option ℕ) → o ≡ Some x → IsCause (level_at holds) flow x → HasCause holds flow o
  caused holds flow x o e (by_bound k) = at_bound (k ∙ sym e)
  caused holds flow x o e (by_resource r u k) = at_hold r u (k ∙ sym e)

  way_back : AreHeld s new.levels.items (level_at new.holds.items)
  way_back = settling_ends_lem s new.levels.items new.holds.items [] sound (record {
    resources = λ r l clean. elim (bool_cases (q r)) [
      | inl here ↦ done.held_at r l here
      | inr away ↦ subst (IsHold (slice_index s.capacities r) s.slots new.levels.items (users_on s.users r)) (sym (done.other_resources r away))
          (hold_is_local_lem (slice_index s.capacities r) s.slots s.slots old.levels.items new.levels.items (users_on s.users r) (level_at old.holds.items r)
          (λ id i. (refl, done.other_flows id (away_row r id away i)))
          (between.written.resources r l (not_active r away) (λ id i. elim (bool_cases (is_in r (uses_at s.slots id))) [ inl used ↦ absurd (true≢false (sym (along.uses id r (within.stale id i) used) ∙ away)) | inr off ↦ off ])))
    ];
    within = λ id flow e. elim (bool_cases (p id)) [
      | inl here ↦ subst (λ o. IsAtMost o (bound_of flow)) (here_same id flow e here) (whole.within id flow e)
      | inr away ↦ subst (λ o. IsAtMost o (bound_of flow)) (sym (done.other_flows id away)) (between.written.within id flow e (not_stale id away))
    ];
    under = λ id r flow e u clean. inl (elim (bool_cases (p id)) [
      | inl here ↦ subst (λ o. IsAtMost o (level_at new.holds.items r)) (here_same id flow e here) (subst (IsAtMost (level_at all id)) (holds_here r (along.uses id r here (ap (is_in r) (uses_held s.slots id flow e) ∙ u))) (whole.under id r flow e u))
      | inr away ↦ let off = away_uses id r flow e u away in
          subst (IsAtMost (level_at new.levels.items id)) (sym (done.other_resources r off)) (subst (λ o. IsAtMost o (level_at old.holds.items r)) (sym (done.other_flows id away)) (between.written.under id r flow e (not_stale id away) u (not_active r off)))
    ]);
    cause = λ id flow e. inl (elim (bool_cases (p id)) [
      | inl here ↦ let k = whole.cause id flow e in caused new.holds.items flow k.0 (level_at new.levels.items id) (sym (here_same id flow e here) ∙ k.1) (cause_here id flow e here k.0 k.2)
      | inr away ↦ cause_away id flow e away (between.written.cause id flow e (not_stale id away))
    ]);
  }) (λ r. refl)

pub way_back_lem : WayBack
way_back_lem s old new p q sound between along within done = way_back s sound old new p q between along within done
