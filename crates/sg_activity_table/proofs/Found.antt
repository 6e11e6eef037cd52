-- The key of each activity id, as an activity comes, changes and goes.
use Rattle.std.proofs.Common.{◌≡◌, ◌≢◌, ℕ, ◌<◌, inl, inr, nat_eq, true, false, Option, None, Some, List, length, set, sym, ap, ◌∙◌, arith}
use Rattle.sg_activity_table.specs.declared.lives.Live.{Live}
use Rattle.sg_activity_table.specs.Pool.{slot_at, IsMissing, FindsEach, SameSlots}
use Rattle.sg_activity_table.proofs.Places.{eq_cases, some_same}
use Rattle.sg_activity_table.proofs.Places.{set_cases}
use Rattle.sg_activity_table.proofs.Places.{set_here, set_there}

module _ (slots : List (Option Live)) (find : ℕ → Option ℕ) (key : ℕ) (is : FindsEach slots find) (within : key < length slots) where
  pub found_put : (new : ℕ → Option ℕ) (live : Live) → IsMissing slots live.serial → slot_at slots key ≡ None → new live.serial ≡ Some key → ((j : ℕ) → j ≢ live.serial → new j ≡ find j) → FindsEach (set slots key (Some live)) new
  found_put new live missing free here others = record {
    each = λ k l at. elim (set_cases slots key k (Some live) l at) [
      | inl c ↦ ap (λ (x : Live). new x.serial) (sym (some_same c.1)) ∙ here ∙ ap Some (sym c.0)
      | inr c ↦ others l.serial (missing k l c.1) ∙ is.each k l c.1
    ];
    back = λ serial k e. elim (eq_cases serial live.serial) [
      | inl h ↦
          let same : key ≡ k = some_same (sym here ∙ ap new (sym h) ∙ e) in
          (live, record { at = ap (slot_at (set slots key (Some live))) (sym same) ∙ set_here slots key (Some live) within; is = sym h })
      | inr ne ↦
          let f = is.back serial k (sym (others serial ne) ∙ e) in
          let away : k ≢ key = (λ h. cc (sym free ∙ ap (slot_at slots) (sym h) ∙ f.1.at)) in
          (f.0, record { at = set_there slots key k (Some live) away ∙ f.1.at; is = f.1.is })
    ];
  }

  pub found_set : (old live : Live) → slot_at slots key ≡ Some old → old.serial ≡ live.serial → FindsEach (set slots key (Some live)) find
  found_set old live at same = record {
    each = λ k l e. elim (set_cases slots key k (Some live) l e) [
      | inl c ↦ ap (λ (x : Live). find x.serial) (sym (some_same c.1)) ∙ ap find (sym same) ∙ is.each key old at ∙ ap Some (sym c.0)
      | inr c ↦ is.each k l c.1
    ];
    back = λ serial k e.
        let f = is.back serial k e in
        elim (eq_cases k key) [
          | inl h ↦
              let its : old ≡ f.0 = some_same (sym at ∙ ap (slot_at slots) (sym h) ∙ f.1.at) in
              (live, record { at = ap (slot_at (set slots key (Some live))) h ∙ set_here slots key (Some live) within; is = sym same ∙ ap (λ (x : Live). x.serial) its ∙ f.1.is })
          | inr ne ↦ (f.0, record { at = set_there slots key k (Some live) ne ∙ f.1.at; is = f.1.is })
        ];
  }

  pub found_gone : (new : ℕ → Option ℕ) (old : Live) → slot_at slots key ≡ Some old → new old.serial ≡ None → ((j : ℕ) → j ≢ old.serial → new j ≡ find j) → FindsEach (set slots key None) new
  found_gone new old at here others = record {
    each = λ k l e. elim (set_cases slots key k None l e) [
      | inl c ↦ absurd (cc c.1)
      | inr c ↦
          let apart : l.serial ≢ old.serial = (λ h. c.0 (some_same (sym (is.each k l c.1) ∙ ap find h ∙ is.each key old at))) in
          others l.serial apart ∙ is.each k l c.1
    ];
    back = λ serial k e. elim (eq_cases serial old.serial) [
      | inl h ↦ absurd (cc (sym here ∙ ap new (sym h) ∙ e))
      | inr ne ↦
          let f = is.back serial k (sym (others serial ne) ∙ e) in
          let away : k ≢ key = (λ h. ne (sym f.1.is ∙ ap (λ (x : Live). x.serial) (some_same (sym f.1.at ∙ ap (slot_at slots) h ∙ at)))) in
          (f.0, record { at = set_there slots key k None away ∙ f.1.at; is = f.1.is })
    ];
  }

-- more keys
pub found_wider : (old new : List (Option Live)) (find next : ℕ → Option ℕ) → SameSlots old new → ((serial : ℕ) → next serial ≡ find serial) → FindsEach old find → FindsEach new next
found_wider old new find next same finds is = record {
  each = λ key live e. finds live.serial ∙ is.each key live (sym (same key) ∙ e);
  back = λ serial key e. let f = is.back serial key (sym (finds serial) ∙ e) in (f.0, record { at = same key ∙ f.1.at; is = f.1.is });
}

-- ---- what the map says of each activity id
pub agrees : (a : ℕ) → nat_eq a a ≡ true
agrees a = grind arith

pub differs : (a b : ℕ) → b ≢ a → nat_eq a b ≡ false
differs a b ne = grind (arith, ne)
