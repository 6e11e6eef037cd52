-- A change that marks what it touches.
use Rattle.std.proofs.Common.{◌≡◌, ℕ, ◌+◌, ◌-◌, ◌/◌, ◌<◌, inl, inr, true, false, cond, true≢false, is_none, Option, None, Some, List, [], length, get_or, slice_index, refl, sym, ap, ap₂, subst, ◌∙◌, arith}
use Rattle.sg_base.specs.MarkSet.{is_in}
use Rattle.sg_maxmin.specs.Chained.{times, users_on}
use Rattle.sg_maxmin.specs.Fill.{Flow}
use Rattle.sg_maxmin.specs.Fixing.{share_of_fixed}
use Rattle.sg_maxmin.specs.Sharing.{Sharing, IsSound, flow_at, uses_at, uses_in}
use Rattle.sg_maxmin.specs.Numbered.{below_at, bound_of, flow_in, level_at, row_level, row_taken, row_waiting, weight_at}
use Rattle.sg_maxmin.specs.Held.{IsAtMost, IsHold, IsSameRow}
use Rattle.sg_maxmin_levels.specs.Settling.{AreMarked, AreSettling, AreSettlingBut, ChangesKeep, HasCause, IsStale, at_bound, is_active}
use Rattle.sg_maxmin.proofs.Listed.{bool_cases, times_out}
use Rattle.sg_maxmin.proofs.Users.{in_uses, on_below, uses_held, uses_none}
use Rattle.sg_maxmin.proofs.OnRow.{sum_listed}
use Rattle.sg_maxmin.proofs.OneHold.{hold_is_local_lem}
use Rattle.sg_maxmin_levels.proofs.Steps.{at_most_self, uses_row}

-- ---- the order of a row doesn't matter
level_listed : (capacity n : ℕ) (slots : List (Option Flow)) (fixed : ℕ → Option ℕ) (row row' : List ℕ) → ((i : ℕ) → i < length row → get_or row i 0 < n) → ((i : ℕ) → i < length row' → get_or row' i 0 < n) → ((id : ℕ) → times id row' ≡ times id row) →
    row_level capacity slots fixed row' ≡ row_level capacity slots fixed row
unfolding row_level row_taken row_waiting
level_listed capacity n slots fixed row row' b b' same =
    ap₂ (λ t w. (capacity - t) / w)
    (sum_listed n (λ id. share_of_fixed (flow_in slots id) (fixed id)) row row' b b' same)
    (sum_listed n (λ id. cond (is_none (fixed id)) (weight_at slots id) 0) row row' b b' same)

waiting_listed : (n : ℕ) (slots : List (Option Flow)) (fixed : ℕ → Option ℕ) (row row' : List ℕ) → ((i : ℕ) → i < length row → get_or row i 0 < n) → ((i : ℕ) → i < length row' → get_or row' i 0 < n) → ((id : ℕ) → times id row' ≡ times id row) →
    row_waiting slots fixed row' ≡ row_waiting slots fixed row
unfolding row_waiting
waiting_listed n slots fixed row row' b b' same = sum_listed n (λ id. cond (is_none (fixed id)) (weight_at slots id) 0) row row' b b' same

pub hold_listed : (capacity n : ℕ) (slots : List (Option Flow)) (levels : List (Option ℕ)) (row row' : List ℕ) (hold : Option ℕ) → ((i : ℕ) → i < length row → get_or row i 0 < n) → ((i : ℕ) → i < length row' → get_or row' i 0 < n) → ((id : ℕ) → times id row' ≡ times id row) →
    IsHold capacity slots levels row hold → IsHold capacity slots levels row' hold
hold_listed capacity n slots levels row row' None b b' same is = record {
  above = λ x u w. omega (arith, level_listed capacity n slots (below_at levels x) row row' b b' same, is.above x u (omega (arith, waiting_listed n slots (below_at levels x) row row' b b' same, w)));
  met = tt;
}
hold_listed capacity n slots levels row row' (Some h) b b' same is = record {
  above = λ x u w. omega (arith, level_listed capacity n slots (below_at levels x) row row' b b' same, is.above x u (omega (arith, waiting_listed n slots (below_at levels x) row row' b b' same, w)));
  met = (omega (arith, waiting_listed n slots (below_at levels h) row row' b b' same, is.met.0), level_listed capacity n slots (below_at levels h) row row' b b' same ∙ is.met.1);
}

-- ---- a flow that changed doesn't use what isn't active
not_used : (slots : List (Option Flow)) (id r : ℕ) (active : List ℕ) → ((flow : Flow) (r : ℕ) → flow_at slots id ≡ Some flow → is_in r flow.uses ≡ true → is_active active r ≡ true) → is_active active r ≡ false → is_in r (uses_at slots id) ≡ false
not_used slots id r active marks clean = from (flow_at slots id) refl
  where
    from : (o : Option Flow) → flow_at slots id ≡ o → is_in r (uses_at slots id) ≡ false
    from None e = ap (is_in r) (uses_none slots id e)
    from (Some flow) e = elim (bool_cases (is_in r flow.uses)) [
      | inl on ↦ absurd (true≢false (sym (marks flow r e on) ∙ clean))
      | inr off ↦ ap (is_in r) (uses_held slots id flow e) ∙ off
    ]

module _ (s t : Sharing) (old new holds : List (Option ℕ)) (active active' : List ℕ) (stale stale' : List ℕ) (sound : IsSound s) (sound' : IsSound t) (marked : AreMarked s t old new active active' stale stale') (are : AreSettlingBut s old holds active stale) where
  -- a stale flow uses what it used
  used_not : (id r : ℕ) → IsStale s t stale' id → is_in r (uses_at t.slots id) ≡ false → is_in r (uses_at s.slots id) ≡ false
  used_not id r now off = elim (bool_cases (is_in r (uses_at s.slots id))) [ inl on ↦ absurd (true≢false (sym (now.uses r on) ∙ off)) | inr none ↦ none ]

  same_times : (r : ℕ) → is_active active' r ≡ false → ((id : ℕ) → is_in id stale' ≡ true → is_in r (uses_at t.slots id) ≡ false) → (id : ℕ) → times id (users_on t.users r) ≡ times id (users_on s.users r)
  same_times r clean none id = elim (marked.flows id) [
    | inl same ↦ sound'.both id r ∙ ap (λ o. times r (uses_in o)) same.flow ∙ sym (sound.both id r)
    | inr (inl now) ↦ let off = none id now.now in sound'.both id r ∙ times_out r (uses_at t.slots id) off ∙ sym (times_out r (uses_at s.slots id) (used_not id r now off)) ∙ sym (sound.both id r)
    | inr (inr changed) ↦ sound'.both id r ∙ times_out r (uses_at t.slots id) (not_used t.slots id r active' changed.after clean) ∙ sym (times_out r (uses_at s.slots id) (not_used s.slots id r active' changed.before clean)) ∙ sym (sound.both id r)
  ]

  -- no flow on it was stale
  none_stale : (r : ℕ) → is_active active' r ≡ false → ((id : ℕ) → is_in id stale' ≡ true → is_in r (uses_at t.slots id) ≡ false) → (id : ℕ) → is_in id stale ≡ true → is_in r (uses_at s.slots id) ≡ false
  none_stale r clean none id i = elim (marked.flows id) [
    | inl same ↦ elim (bool_cases (is_in id stale')) [
      | inl on ↦ sym (ap (λ o. is_in r (uses_in o)) same.flow) ∙ none id on
      | inr off ↦ absurd (true≢false (sym i ∙ same.still off))
    ]
    | inr (inl now) ↦ used_not id r now (none id now.now)
    | inr (inr changed) ↦ not_used s.slots id r active' changed.before clean
  ]

  same_row : (r : ℕ) → is_active active' r ≡ false → ((id : ℕ) → is_in id stale' ≡ true → is_in r (uses_at t.slots id) ≡ false) → IsSameRow (users_on s.users r) s.slots t.slots old new
  same_row r clean none id i = elim (marked.flows id) [
    | inl same ↦ (same.flow, same.level)
    | inr (inl now) ↦ absurd (true≢false (sym (uses_row s sound r id i) ∙ used_not id r now (none id now.now)))
    | inr (inr changed) ↦ absurd (true≢false (sym (uses_row s sound r id i) ∙ not_used s.slots id r active' changed.before clean))
  ]

  most : (id r : ℕ) (flow : Flow) → flow_at t.slots id ≡ Some flow → is_in id stale ≡ false → is_in r flow.uses ≡ true → is_active active' r ≡ false → uses_at t.slots id ≡ uses_at s.slots id → level_at new id ≡ level_at old id → IsAtMost (level_at new id) (level_at holds r)
  most id r flow e off u clean uses level =
      let held = in_uses s.slots id r (sym (ap (is_in r) uses) ∙ ap (is_in r) (uses_held t.slots id flow e) ∙ u) in
      subst (λ o. IsAtMost o (level_at holds r)) (sym level) (are.under id r held.0 held.1 off held.2 (marked.marks r clean))

  pub changes_kept : AreSettlingBut t new holds active' stale'
  changes_kept = record {
    resources = λ r l clean none.
        let n = length s.slots + length t.slots in
        let row = users_on s.users r in
        let row' = users_on t.users r in
        let before = are.resources r (omega (arith, l, marked.as_many)) (marked.marks r clean) (none_stale r clean none) in
        let same = hold_is_local_lem (slice_index s.capacities r) s.slots t.slots old new row (level_at holds r) (same_row r clean none) before in
        subst (λ cap. IsHold cap t.slots new row' (level_at holds r)) (sym (marked.capacities r clean))
        (hold_listed (slice_index s.capacities r) n t.slots new row row' (level_at holds r) (λ i h. omega (arith, on_below s sound r i h)) (λ i h. omega (arith, on_below t sound' r i h)) (same_times r clean none) same);
    within = λ id flow e off. elim (marked.flows id) [
      | inl same ↦ subst (λ o. IsAtMost o (bound_of flow)) (sym same.level) (are.within id flow (sym same.flow ∙ e) (same.still off))
      | inr (inl now) ↦ absurd (true≢false (sym now.now ∙ off))
      | inr (inr changed) ↦ subst (λ o. IsAtMost o (bound_of flow)) (sym (changed.level_is flow e)) (at_most_self (bound_of flow))
    ];
    under = λ id r flow e off u clean. elim (marked.flows id) [
      | inl same ↦ most id r flow e (same.still off) u clean (ap uses_in same.flow) same.level
      | inr (inl now) ↦ absurd (true≢false (sym now.now ∙ off))
      | inr (inr changed) ↦ absurd (true≢false (sym (changed.after flow r e u) ∙ clean))
    ];
    cause = λ id flow e off. elim (marked.flows id) [
      | inl same ↦ subst (HasCause holds flow) (sym same.level) (are.cause id flow (sym same.flow ∙ e) (same.still off))
      | inr (inl now) ↦ absurd (true≢false (sym now.now ∙ off))
      | inr (inr changed) ↦ at_bound (sym (changed.level_is flow e))
    ];
  }

pub changes_keep_lem : ChangesKeep
changes_keep_lem s t old new holds active active' stale stale' sound sound' marked are = changes_kept s t old new holds active active' stale stale' sound sound' marked are

-- ---- if none is stale, it is as within a rate update
pub none_but : (s : Sharing) (levels holds : List (Option ℕ)) (active : List ℕ) → AreSettling s levels holds active → AreSettlingBut s levels holds active []
none_but s levels holds active are = record {
  resources = λ r l clean none. are.resources r l clean;
  within = λ id flow e off. are.within id flow e;
  under = λ id r flow e off u clean. elim (are.under id r flow e u clean) [ inl ok ↦ ok | inr k ↦ absurd (true≢false (sym k.1)) ];
  cause = λ id flow e off. elim (are.cause id flow e) [ inl ok ↦ ok | inr k ↦ absurd (true≢false (sym k.0)) ];
}

pub but_none : (s : Sharing) (levels holds : List (Option ℕ)) (active : List ℕ) → AreSettlingBut s levels holds active [] → AreSettling s levels holds active
but_none s levels holds active are = record {
  resources = λ r l clean. are.resources r l clean (λ id i. absurd (true≢false (sym i)));
  within = λ id flow e. are.within id flow e refl;
  under = λ id r flow e u clean. inl (are.under id r flow e refl u clean);
  cause = λ id flow e. inl (are.cause id flow e refl);
}
