-- A step notes the resources that hold their flows at its level.
use Rattle.std.proofs.Common.{◌≡◌, ℕ, ◌-◌, ◌/◌, ◌<◌, ◌≤◌, ◌⊎◌, inl, inr, true, true≢false, cond, is_none, Option, None, Some, IsSome, List, [], get_or, slice_index, refl, sym, ap, subst, ◌∙◌, arith}
use Rattle.std.proofs.Math.Nat.{div-zero}
use Rattle.sg_base.specs.MarkSet.{is_in}
use Rattle.sg_maxmin.specs.Chained.{users_on}
use Rattle.sg_maxmin.specs.Fill.{Flow}
use Rattle.sg_maxmin.specs.Fixing.{Fixed, step}
use Rattle.sg_maxmin.specs.Sharing.{Sharing, uses_at}
use Rattle.sg_maxmin.proofs.Members.{In, In-flat_map, In-flat_map_back, In-from_contains, In-map, contains_from_In}
use Rattle.sg_maxmin.proofs.Rises.{limits_rise}
use Rattle.sg_maxmin.specs.Numbered.{below_at, flow_in, row_level, row_taken, row_waiting, when_below}
use Rattle.sg_maxmin.proofs.HeldLevels.{at_no, at_yes, row_same, waits_one}
use Rattle.sg_maxmin_solve.specs.declared.filling.Filling.{Filling}
use Rattle.sg_maxmin.specs.Step.{IsLeast, IsStepped}
use Rattle.sg_maxmin_solve.specs.Filling.{AreCounted, AreJoined, AreLevels, fixed_at, flows_at, limits_at, unfixed_limits}
use Rattle.sg_maxmin_solve.specs.Holds.{AreFresh, AreNoted, AreUnder, NotesHolds}
use Rattle.sg_maxmin_solve.proofs.Fixing.{level_in}
use Rattle.sg_maxmin_solve.proofs.Joined.{row_is, user_there}
use Rattle.sg_maxmin_solve.proofs.Keyed.{nobody_waits}
use Rattle.sg_maxmin_solve.proofs.Rows.{into}
use Rattle.sg_maxmin_solve.proofs.Stepped.{level_is, limits_are, lowest_is}
use Rattle.sg_maxmin.proofs.Listed.{at_in, eq_cases, in_at, none_some, same_in, some_same}
use Rattle.sg_maxmin.proofs.Users.{in_is, is_in_In, rows_once, weighs}

none_below : (x : ℕ) → when_below None x ≡ None
unfolding when_below
none_below x = refl

-- a resource that is at a level has flows that wait
level_waits : (capacity : ℕ) (slots : List (Option Flow)) (fixed : ℕ → Option ℕ) (row : List ℕ) → 0 < row_level capacity slots fixed row → 0 < row_waiting slots fixed row
unfolding row_level
level_waits capacity slots fixed row pos = elim (eq_cases (row_waiting slots fixed row) 0) [
  | inl z ↦ absurd (omega (arith, pos, ap (λ w. (capacity - row_taken slots fixed row) / w) z, div-zero (capacity - row_taken slots fixed row)))
  | inr some ↦ omega (arith, some)
]

pub stepped_some : (low : ℕ) (at : Type 0) (before after : Option ℕ) (x : ℕ) → IsStepped low at before after → before ≡ Some x → after ≡ Some x
stepped_some low at None after x h e = absurd (none_some e)
stepped_some low at (Some y) after x h e = h ∙ e

stepped_none : (low : ℕ) (at : Type 0) (before after : Option ℕ) → IsStepped low at before after → before ≡ None → (after ≡ None) ⊎ (after ≡ Some low)
stepped_none low at (Some y) after h e = absurd (none_some (sym e))
stepped_none low at None after (inl h) e = inr h.1
stepped_none low at None after (inr h) e = inl h.1

stepped_at : (low : ℕ) (at : Type 0) (before after : Option ℕ) → IsStepped low at before after → before ≡ None → at → after ≡ Some low
stepped_at low at (Some y) after h e is = absurd (none_some (sym e))
stepped_at low at None after (inl h) e is = h.1
stepped_at low at None after (inr h) e is = absurd (h.0 is)

not_none : (o : Option ℕ) → IsSome o → o ≡ None → ⊥
not_none None h e = absurd (true≢false (sym h))
not_none (Some x) h e = none_some (sym e)

unnoted : (o : Option ℕ) → (IsSome o → ⊥) → o ≡ None
unnoted None h = refl
unnoted (Some x) h = absurd (h refl)

the_unfixed : (o : Option ℕ) (xs : List ℕ) (x : ℕ) → In x (cond (is_none o) xs []) → (o ≡ None) × In x xs
the_unfixed None xs x i = (refl, i)
the_unfixed (Some y) xs x i = absurd i

-- an unfixed flow's limits are at the least one or above
pub above_least : (s : Sharing) (fixed : List (Option ℕ)) (levels touched : List ℕ) (low : ℕ) → IsLeast (Some low) (unfixed_limits s.slots fixed levels touched) → (id : ℕ) → is_in id touched ≡ true → fixed_at fixed id ≡ None → (x : ℕ) → In x (limits_at s.slots levels id) → low ≤ x
above_least s fixed levels touched low least id i none x k =
    let part : In x (cond (is_none (fixed_at fixed id)) (limits_at s.slots levels id) []) = subst (λ (o : Option ℕ). In x (cond (is_none o) (limits_at s.slots levels id) [])) (sym none) k in
    least.1 x (contains_from_In (unfixed_limits s.slots fixed levels touched) x (In-flat_map (λ f. cond (is_none (fixed_at fixed f)) (limits_at s.slots levels f) []) touched id x (is_in_In id touched i) part))

module _ (s : Sharing) (touched reached : List ℕ) (joined : AreJoined s touched reached) (old : Filling) (low : ℕ) (state : Fixed) (are : (f : ℕ) → In f touched → state (flow_in s.slots f) ≡ fixed_at old.fixed.items f)
    (counted : AreCounted s old.fixed.items touched old.left.items old.waiting.items (λ c. is_in c reached)) (leveled : AreLevels reached old) (least : IsLeast (Some low) (unfixed_limits s.slots old.fixed.items old.levels.items touched)) (under : AreUnder s touched old) where
  abbrev was : ℕ → Option ℕ
  was id = fixed_at old.fixed.items id

  abbrev row : ℕ → List ℕ
  row c = users_on s.users c

  abbrev cap : ℕ → ℕ
  cap c = slice_index s.capacities c

  lower : (id x : ℕ) → is_in id touched ≡ true → fixed_at old.fixed.items id ≡ Some x → x < low
  lower id x i e = under id x low i e least.0

  fixed_cases : (o : Option ℕ) → (o ≡ None) ⊎ ((x : ℕ) × (o ≡ Some x))
  fixed_cases None = inl refl
  fixed_cases (Some x) = inr (x, refl)

  there : (c : ℕ) → is_in c reached ≡ true → (id : ℕ) → In id (users_on s.users c) → is_in id touched ≡ true
  there c r id i = user_there s touched reached joined c id r (in_is id (row c) i)

  -- what is written as the level of a resource
  stored : (c : ℕ) → is_in c reached ≡ true → row_level (slice_index s.capacities c) s.slots (λ id. fixed_at old.fixed.items id) (users_on s.users c) ≡ get_or old.levels.items c 0
  stored c r =
      row_same (cap c) s.slots (λ id. was id) (λ id. state (flow_in s.slots id)) (row c) (λ id i. sym (are id (is_in_In id touched (there c r id i))))
      ∙ row_is s touched reached joined state c r
      ∙ level_is s old.fixed.items touched state (λ f i. rows_once s joined.part.sound f) are old.left.items old.waiting.items old.levels.items (λ c. is_in c reached) counted leveled
      (λ f c i u. into (uses_at s.slots f) reached c (joined.closed.covers f (in_is f touched i)) (in_is c (uses_at s.slots f) u)) c r

  -- a flow waits on each resource at the level
  waits : (c : ℕ) → is_in c reached ≡ true → get_or old.levels.items c 0 ≡ low → (id : ℕ) × In id (users_on s.users c) × (fixed_at old.fixed.items id ≡ None)
  waits c r e =
      let first = get_or (row c) 0 0 in
      let i : In first (row c) = is_in_In first (row c) (in_at first (row c) 0 (joined.used c r) refl) in
      elim (fixed_cases (was first)) [
        | inl none ↦ (first, i, none)
        | inr k ↦
            let pos : 0 < row_level (cap c) s.slots (λ id. was id) (row c) = omega (arith, stored c r, e, lower first k.0 (there c r first i) k.1) in
            waits_one s.slots (λ id. was id) (row c) (level_waits (cap c) s.slots (λ id. was id) (row c) pos)
      ]

  -- no resource at the level was noted before
  pub fresh_at : AreNoted s reached old → AreFresh reached low old
  fresh_at noted c r e = unnoted (fixed_at old.holds.items c) (λ some. let w = waits c r e in not_none (was w.0) ((noted c r).done some w.0 (in_is w.0 (row c) w.1)) w.2)

  module _ (new : Filling) (stepped : (f : ℕ) → In f touched → IsStepped low (IsLeast (Some low) (limits_at s.slots old.levels.items f)) (fixed_at old.fixed.items f) (fixed_at new.fixed.items f)) where
    abbrev now : ℕ → Option ℕ
    now id = fixed_at new.fixed.items id

    abbrev At : ℕ → Type 0
    At id = IsLeast (Some low) (limits_at s.slots old.levels.items id)

    after_some : (id x : ℕ) → is_in id touched ≡ true → fixed_at old.fixed.items id ≡ Some x → fixed_at new.fixed.items id ≡ Some x
    after_some id x i e = stepped_some low (At id) (was id) (now id) x (stepped id (is_in_In id touched i)) e

    after_none : (id : ℕ) → is_in id touched ≡ true → fixed_at old.fixed.items id ≡ None → (fixed_at new.fixed.items id ≡ None) ⊎ (fixed_at new.fixed.items id ≡ Some low)
    after_none id i e = stepped_none low (At id) (was id) (now id) (stepped id (is_in_In id touched i)) e

    -- of the flows of levels below this one the step changes none
    below_then : (id x : ℕ) → is_in id touched ≡ true → x ≤ low → below_at new.fixed.items x id ≡ below_at old.fixed.items x id
    below_then id x i le = elim (fixed_cases (was id)) [
      | inr k ↦ ap (λ o. when_below o x) (after_some id k.0 i k.1 ∙ sym k.1)
      | inl e ↦ elim (after_none id i e) [
        | inl z ↦ ap (λ o. when_below o x) (z ∙ sym e)
        | inr z ↦ at_no new.fixed.items x id low z le ∙ sym (ap (λ o. when_below o x) e ∙ none_below x)
      ]
    ]

    below_now : (id : ℕ) → is_in id touched ≡ true → below_at new.fixed.items low id ≡ fixed_at old.fixed.items id
    below_now id i = below_then id low i (omega arith) ∙ elim (fixed_cases (was id)) [
      | inr k ↦ at_yes old.fixed.items low id k.0 k.1 (lower id k.0 i k.1) ∙ sym k.1
      | inl e ↦ ap (λ o. when_below o low) e ∙ none_below low ∙ sym e
    ]

    seen : (c : ℕ) → is_in c reached ≡ true → row_level (slice_index s.capacities c) s.slots (below_at new.fixed.items low) (users_on s.users c) ≡ get_or old.levels.items c 0
    seen c r = row_same (cap c) s.slots (below_at new.fixed.items low) (λ id. was id) (row c) (λ id i. below_now id (there c r id i)) ∙ stored c r

    seen_then : (c x : ℕ) → is_in c reached ≡ true → x ≤ low → row_level (slice_index s.capacities c) s.slots (below_at new.fixed.items x) (users_on s.users c) ≡ row_level (slice_index s.capacities c) s.slots (below_at old.fixed.items x) (users_on s.users c)
    seen_then c x r le = row_same (cap c) s.slots (below_at new.fixed.items x) (below_at old.fixed.items x) (row c) (λ id i. below_then id x (there c r id i) le)

    -- an unfixed flow on a resource at the level is fixed
    fixes : (c id : ℕ) → is_in c reached ≡ true → get_or old.levels.items c 0 ≡ low → In id (users_on s.users c) → fixed_at old.fixed.items id ≡ None → fixed_at new.fixed.items id ≡ Some low
    fixes c id r e i none =
        let t = there c r id i in
        let used = same_in id c (row c) (uses_at s.slots id) (joined.part.sound.both id c) (in_is id (row c) i) in
        let limit = level_in s old.levels.items id c low used e in
        stepped_at low (At id) (was id) (now id) (stepped id (is_in_In id touched t)) none
        (limit, λ x k. above_least s old.fixed.items old.levels.items touched low least id t none x (In-from_contains (limits_at s.slots old.levels.items id) x k))

    module _ (noted : AreNoted s reached old) (notes : NotesHolds reached low old new) where
      fresh : (c : ℕ) → is_in c reached ≡ true → get_or old.levels.items c 0 ≡ low → IsSome (fixed_at old.holds.items c) → ⊥
      fresh c r e some = not_none (fixed_at old.holds.items c) some (fresh_at noted c r e)

      pub noted_next : AreNoted s reached new
      noted_next c r = record {
        user = λ x h. elim (notes.may c) [
          | inl same ↦ let u = (noted c r).user x (sym same ∙ h) in (u.0, u.1, after_some u.0 x (user_there s touched reached joined c u.0 r u.1) u.2)
          | inr at ↦ let w = waits c r at.0 in (w.0, in_is w.0 (row c) w.1, fixes c w.0 r at.0 w.1 w.2 ∙ sym at.1 ∙ h)
        ];
        met = λ x h. elim (notes.may c) [
          | inl same ↦
              let e = sym same ∙ h in
              let u = (noted c r).user x e in
              let less = lower u.0 x (user_there s touched reached joined c u.0 r u.1) u.2 in
              seen_then c x r (omega (arith, less)) ∙ (noted c r).met x e
          | inr at ↦ subst (λ y. row_level (cap c) s.slots (below_at new.fixed.items y) (row c) ≡ y) (some_same low x (sym at.1 ∙ h)) (seen c r ∙ at.0)
        ];
        told = λ id x i e full.
            let t = user_there s touched reached joined c id r i in
            elim (fixed_cases (was id)) [
              | inr k ↦
                  let is : k.0 ≡ x = some_same k.0 x (sym (after_some id k.0 t k.1) ∙ e) in
                  let then = subst (λ y. fixed_at old.fixed.items id ≡ Some y) is k.1 in
                  let held = (noted c r).told id x i then (sym (seen_then c x r (omega (arith, lower id x t then))) ∙ full) in
                  elim (notes.may c) [
                    | inl same ↦ same ∙ held
                    | inr at ↦ absurd (fresh c r at.0 (subst IsSome (sym held) refl))
                  ]
              | inl none ↦ elim (after_none id t none) [
                | inl z ↦ absurd (none_some (sym z ∙ e))
                | inr z ↦
                    let is : low ≡ x = some_same low x (sym z ∙ e) in
                    let at : get_or old.levels.items c 0 ≡ low = sym (seen c r) ∙ subst (λ y. row_level (cap c) s.slots (below_at new.fixed.items y) (row c) ≡ y) (sym is) full in
                    notes.taken c r at (waiting c r id i none) ∙ ap (λ y. Some y) is
              ]
            ];
        done = λ some id i.
            let t = user_there s touched reached joined c id r i in
            let stays = λ (k : (x : ℕ) × (fixed_at old.fixed.items id ≡ Some x)). subst IsSome (sym (after_some id k.0 t k.1)) refl in
            elim (fixed_cases (was id)) [
              | inr k ↦ stays k
              | inl none ↦ elim (notes.may c) [
                | inl same ↦ absurd (not_none (was id) ((noted c r).done (subst IsSome same some) id i) none)
                | inr at ↦ subst IsSome (sym (fixes c id r at.0 (is_in_In id (row c) i) none)) refl
              ]
            ];
      }
        where
          waiting : (c : ℕ) → is_in c reached ≡ true → (id : ℕ) → is_in id (users_on s.users c) ≡ true → fixed_at old.fixed.items id ≡ None → 0 < get_or old.waiting.items c 0
          waiting c r id i none = elim (eq_cases (get_or old.waiting.items c 0) 0) [
            | inr some ↦ omega (arith, some)
            | inl z ↦
                let at = at_in id (row c) i in
                absurd (not_none (was id) (subst (λ n. IsSome (fixed_at old.fixed.items n)) at.2 (nobody_waits s touched reached old joined counted c r z at.0 at.1)) none)
          ]

    -- the fixed flows stay below all that limits the others
    pub under_next : ((f : ℕ) → In f touched → step s.capacities (flows_at s.slots touched) state (flow_in s.slots f) ≡ fixed_at new.fixed.items f) →
        AreCounted s new.fixed.items touched new.left.items new.waiting.items (λ c. is_in c reached) → AreLevels reached new → AreUnder s touched new
    under_next are' counted' leveled' id x limit i e k =
        let sound = joined.part.sound in
        let flows = flows_at s.slots touched in
        let covers = λ (f c : ℕ) (i : In f touched) (u : In c (uses_at s.slots f)). into (uses_at s.slots f) reached c (joined.closed.covers f (in_is f touched i)) (in_is c (uses_at s.slots f) u) in
        let b = In-flat_map_back (λ f. cond (is_none (fixed_at new.fixed.items f)) (limits_at s.slots new.levels.items f) []) touched limit (In-from_contains (unfixed_limits s.slots new.fixed.items new.levels.items touched) limit k) in
        let u = the_unfixed (now b.0) (limits_at s.slots new.levels.items b.0) limit b.2 in
        let is = lowest_is s old.fixed.items touched state (λ f i. rows_once s sound f) are old.left.items old.waiting.items old.levels.items (λ c. is_in c reached) counted leveled covers low least in
        let same = limits_are s new.fixed.items touched (step s.capacities flows state) (λ f i. rows_once s sound f) are' new.left.items new.waiting.items new.levels.items (λ c. is_in c reached) counted' leveled' covers b.0 b.1 in
        let rise = limits_rise s.capacities flows state (flow_in s.slots b.0) limit (In-map (flow_in s.slots) touched b.0 b.1) (weighs s sound b.0).0 (are' b.0 b.1 ∙ u.0) (subst (In limit) (sym same) u.1) in
        let most : x ≤ low = elim (fixed_cases (was id)) [
          | inr q ↦ omega (arith, lower id q.0 i q.1, some_same q.0 x (sym (after_some id q.0 i q.1) ∙ e))
          | inl none ↦ elim (after_none id i none) [ inl z ↦ absurd (none_some (sym z ∙ e)) | inr z ↦ omega (arith, some_same low x (sym z ∙ e)) ]
        ] in
        omega (arith, most, rise, is)
