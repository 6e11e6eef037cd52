-- What is kept as flows begin and end, and as they have other bounds and resources other capacities.
use Rattle.std.proofs.Common.{◌-◌, ◌+◌, ◌≡◌, ◌≢◌, ℕ, ◌<◌, ◌≤◌, ◌⊎◌, inl, inr, true, false, true≢false, Option, None, Some, IsSome, IfSome, List, length, length-set, get_or-set_same, get_or-set_other, set, slice_index, refl, sym, ap, subst, ◌∙◌, arith}
use Rattle.sg_base.specs.MarkSet.{MarkSet, is_in, with_mark}
use Rattle.sg_maxmin.specs.Fill.{Flow}
use Rattle.sg_maxmin.specs.Sharing.{Sharing, IsSound, Changes, flow_at, uses_at, uses_in}
use Rattle.sg_maxmin_levels.specs.declared.levels.Levels.{Levels}
use Rattle.sg_maxmin.specs.Numbered.{level_at}
use Rattle.sg_maxmin_levels.specs.Settling.{IsChanged, IsSame, IsStale, is_active}
use Rattle.sg_maxmin_levels.specs.Kept.{ActivatesAll, IsBetween, IsBetweenBut, IsKept, NotesChanged}
use Rattle.sg_maxmin.proofs.Listed.{bool_cases, eq_cases, mark_stays, mark_there, none_some, off_mark, some_of}
use Rattle.sg_maxmin.proofs.Users.{flow_below, uses_held, held_below}
use Rattle.sg_maxmin.specs.Chained.{times, users_on}
use Rattle.sg_maxmin_levels.proofs.Joined.{users_more, users_same}
use Rattle.sg_maxmin_levels.proofs.Keeping.{system_kept}
use Rattle.sg_maxmin_levels.proofs.Within.{marked_or}
use Rattle.sg_maxmin_levels.proofs.Between.{asks_same, between_changed, notes_gone, notes_one, notes_same}

-- what the flow uses is active
pub marks_used : (id : ℕ) (slots : List (Option Flow)) (old new : List ℕ) → ActivatesAll (uses_at slots id) old new → (flow : Flow) (r : ℕ) → flow_at slots id ≡ Some flow → is_in r flow.uses ≡ true → is_active new r ≡ true
marks_used id slots old new activates flow r e u = elim (bool_cases (is_active new r)) [
  | inl on ↦ on
  | inr off ↦ absurd (true≢false (sym u ∙ ap (is_in r) (sym (uses_held slots id flow e)) ∙ (activates r off).1))
]

not_there : (id : ℕ) (slots : List (Option Flow)) → flow_at slots id ≡ None → (flow : Flow) → flow_at slots id ≡ Some flow → ⊥
not_there id slots none flow e = none_some (sym none ∙ e)

-- ---- a flow begins
module _ (s t : Sharing) (sound : IsSound s) (sound' : IsSound t) (id : ℕ) (its : Flow) (free : flow_at s.slots id ≡ None) (added : Changes s.slots t.slots id (Some its)) (numbers : length t.slots ≡ length s.slots) (capacities : t.capacities ≡ s.capacities) where
  -- each of its resources has it as one more user
  pub started_users : (c : ℕ) → length (users_on t.users c) ≡ length (users_on s.users c) + times c its.uses
  started_users c =
      let below = flow_below t.slots id its added.changed in
      users_more s t sound sound' c id (omega (arith, below)) (ap (λ o. times c (uses_in o)) free) (λ other ne. ap uses_in (added.others other ne)) ∙ ap (λ row. length (users_on s.users c) + times c row) (uses_held t.slots id its added.changed)

  pub start_kept : (kept : Levels) → IsKept s kept → length its.uses ≤ kept.longest → IsKept t kept
  start_kept kept are long =
      let places = are.places in
      let caps = ap length capacities in
      system_kept s t sound sound' kept are (record {
        sound = sound';
        levels = omega (arith, places.levels, numbers);
        parts = omega (arith, places.parts, numbers);
        moved = omega (arith, places.moved, numbers);
        stale = omega (arith, places.stale, numbers);
        holds = places.holds ∙ sym caps;
        demands = places.demands ∙ sym caps;
        counts = places.counts ∙ sym caps;
        active = places.active ∙ sym caps;
      })
      (λ other. elim (eq_cases other id) [
        | inl e ↦ inr (ap (slice_index kept.parts.items) e ∙ are.none id free)
        | inr ne ↦ inl (ap uses_in (added.others other ne))
      ])
      (λ other gone. elim (eq_cases other id) [
        | inl e ↦ inr (ap (slice_index kept.parts.items) e ∙ are.none id free)
        | inr ne ↦ inl (sym (added.others other ne) ∙ gone)
      ])
      (λ other. elim (eq_cases other id) [
        | inl e ↦ subst (λ row. length row ≤ kept.longest) (sym (ap (uses_at t.slots) e ∙ uses_held t.slots id its added.changed)) long
        | inr ne ↦ subst (λ o. length (uses_in o) ≤ kept.longest) (sym (added.others other ne)) (are.longest other)
      ]) (λ c. omega (arith, are.counts c, started_users c))

  module _ (old new : Levels) (before : IsBetween s old) (kept : IsKept t new) (levels : new.levels.items ≡ old.levels.items) (parts : new.parts.items ≡ old.parts.items) (holds : new.holds.items ≡ old.holds.items) (active : new.active ≡ old.active)
      (stale : new.stale.members ≡ with_mark id old.stale.members) (moved : new.moved.members ≡ with_mark id old.moved.members) where
    new_one : (other : ℕ) → is_in other new.stale.members ≡ false → (other ≢ id) × (is_in other old.stale.members ≡ false)
    new_one other off = off_mark other id old.stale.members (subst (λ m. is_in other m ≡ false) stale off)

    pub started_between : IsBetween t new
    started_between =
        between_changed s t sound sound' old new old.stale.members new.stale.members before (record {
          as_many = ap length capacities;
          capacities = λ r off. ap (λ cs. slice_index cs r) capacities;
          marks = λ r off. sym (ap (λ (m : MarkSet). is_active m.members r) active) ∙ off;
          flows = λ other. elim (bool_cases (is_in other new.stale.members)) [
            | inl on ↦ inr (inl (record {
              uses = λ r u. elim (eq_cases other id) [
                | inl e ↦ absurd (true≢false (sym (sym (ap (λ o. is_in r (uses_in o)) (ap (flow_at s.slots) e ∙ free)) ∙ u)))
                | inr ne ↦ ap (λ o. is_in r (uses_in o)) (added.others other ne) ∙ u
              ];
              now = on;
            }))
            | inr off ↦ let is = new_one other off in inl (record { flow = added.others other is.0; level = ap (λ ls. level_at ls other) levels; still = λ o. is.1 })
          ];
        }) holds kept
        (λ other held off.
        let is = new_one other off in
        ap (λ ps. slice_index ps other) parts ∙ before.parts other (subst IsSome (added.others other is.0) held) is.1 ∙ asks_same s t old.levels.items new.levels.items other (added.others other is.0) (ap (λ ls. level_at ls other) levels))
        (λ other i. elim (eq_cases other id) [
          | inl e ↦ subst IsSome (sym (ap (flow_at t.slots) e ∙ added.changed)) refl
          | inr ne ↦ elim (marked_or other id old.stale.members (subst (λ m. is_in other m ≡ true) stale i)) [
            | inl e ↦ absurd (ne e)
            | inr on ↦ subst IsSome (sym (added.others other ne)) (before.alive other on)
          ]
        ])

-- ---- a flow ends
-- a flow has no part any more, and no level and no hold changes
pub record HasLeft (old new : Levels) (flow : ℕ) : Type 0 where
  pub levels : new.levels.items ≡ old.levels.items
  pub parts : new.parts.items ≡ set old.parts.items flow 0
  pub moved : new.moved ≡ old.moved
  pub stale : new.stale ≡ old.stale
  pub holds : new.holds.items ≡ old.holds.items

module _ (s t : Sharing) (sound : IsSound s) (sound' : IsSound t) (id : ℕ) (removed : Changes s.slots t.slots id None) (numbers : length t.slots ≡ length s.slots) (capacities : t.capacities ≡ s.capacities) (old new : Levels) (stale' : List ℕ) (before : IsBetween s old) (below : id < length old.parts.items) (left : HasLeft old new id) (gone : is_in id stale' ≡ false) (rests : (other : ℕ) → other ≢ id → is_in other stale' ≡ is_in other old.stale.members) (activates : ActivatesAll (uses_at s.slots id) old.active.members new.active.members) (kept : IsKept s new) (held : IsSome (flow_at s.slots id)) (counts : (c : ℕ) → slice_index new.counts.items c ≤ slice_index old.counts.items c - times c (uses_at s.slots id)) where
  no_part : slice_index new.parts.items id ≡ 0
  no_part = ap (λ ps. slice_index ps id) left.parts ∙ get_or-set_same old.parts.items id 0 0 below

  stays_held : (other : ℕ) → IsSome (flow_at t.slots other) → (other ≢ id) × IsSome (flow_at s.slots other)
  stays_held other held = elim (eq_cases other id) [
    | inl e ↦ absurd (true≢false (sym (subst IsSome (ap (flow_at t.slots) e ∙ removed.changed) held)))
    | inr ne ↦ (ne, subst IsSome (removed.others other ne) held)
  ]

  part_stays : (other : ℕ) → other ≢ id → slice_index new.parts.items other ≡ slice_index old.parts.items other
  part_stays other ne = ap (λ ps. slice_index ps other) left.parts ∙ get_or-set_other old.parts.items id other 0 0 ne

  level_stays : (other : ℕ) → level_at new.levels.items other ≡ level_at old.levels.items other
  level_stays other = ap (λ ls. level_at ls other) left.levels

  ended_kept : IsKept t new
  ended_kept =
      let places = kept.places in
      let caps = ap length capacities in
      system_kept s t sound sound' new kept (record {
        sound = sound';
        levels = omega (arith, places.levels, numbers);
        parts = omega (arith, places.parts, numbers);
        moved = omega (arith, places.moved, numbers);
        stale = omega (arith, places.stale, numbers);
        holds = places.holds ∙ sym caps;
        demands = places.demands ∙ sym caps;
        counts = places.counts ∙ sym caps;
        active = places.active ∙ sym caps;
      })
      (λ other. elim (eq_cases other id) [
        | inl e ↦ inr (ap (slice_index new.parts.items) e ∙ no_part)
        | inr ne ↦ inl (ap uses_in (removed.others other ne))
      ])
      (λ other gone. elim (eq_cases other id) [
        | inl e ↦ inr (ap (slice_index new.parts.items) e ∙ no_part)
        | inr ne ↦ inl (sym (removed.others other ne) ∙ gone)
      ])
      (λ other. elim (eq_cases other id) [
        | inl e ↦ let none : length (uses_at t.slots other) ≡ 0 = ap (λ o. length (uses_in o)) (ap (flow_at t.slots) e ∙ removed.changed) in omega (arith, none)
        | inr ne ↦ subst (λ o. length (uses_in o) ≤ new.longest) (sym (removed.others other ne)) (kept.longest other)
      ]) (λ c. omega (arith, counts c, before.kept.counts c, users_more t s sound' sound c id (omega (arith, held_below s.slots id held)) (ap (λ o. times c (uses_in o)) removed.changed) (λ other ne. sym (ap uses_in (removed.others other ne)))))

  ended_marks : (other : ℕ) → IsSame s t old.levels.items new.levels.items old.stale.members stale' other ⊎ (IsStale s t stale' other ⊎ IsChanged (flow_at s.slots other) (flow_at t.slots other) (level_at new.levels.items other) new.active.members)
  ended_marks other = elim (eq_cases other id) [
    | inl e ↦ inr (inr (subst (λ n. IsChanged (flow_at s.slots n) (flow_at t.slots n) (level_at new.levels.items n) new.active.members) (sym e) (record {
      before = marks_used id s.slots old.active.members new.active.members activates;
      after = λ flow r q u. absurd (not_there id t.slots removed.changed flow q);
      level_is = λ flow q. absurd (not_there id t.slots removed.changed flow q);
    })))
    | inr ne ↦ inl (record { flow = removed.others other ne; level = level_stays other; still = λ off. sym (rests other ne) ∙ off })
  ]

  pub ended_between : IsBetweenBut t new stale'
  ended_between =
      between_changed s t sound sound' old new old.stale.members stale' before (record {
        as_many = ap length capacities;
        capacities = λ r off. ap (λ cs. slice_index cs r) capacities;
        marks = λ r off. (activates r off).0;
        flows = ended_marks;
      }) left.holds ended_kept
      (λ other held off.
      let still = stays_held other held in
      part_stays other still.0 ∙ before.parts other still.1 (sym (rests other still.0) ∙ off) ∙ asks_same s t old.levels.items new.levels.items other (removed.others other still.0) (level_stays other))
      (λ other i. elim (eq_cases other id) [
        | inl e ↦ absurd (true≢false (sym i ∙ ap (λ n. is_in n stale') e ∙ gone))
        | inr ne ↦ subst IsSome (sym (removed.others other ne)) (before.alive other (sym (rests other ne) ∙ i))
      ])

  pub ended_notes : NotesChanged s t old new
  ended_notes = notes_gone s t old new id removed level_stays (ap (λ (m : MarkSet). m.members) left.moved)

-- ---- a flow has another bound
module _ (s t : Sharing) (sound : IsSound s) (sound' : IsSound t) (id : ℕ) (uses : uses_at t.slots id ≡ uses_at s.slots id) (held : IsSome (flow_at s.slots id)) (held' : IsSome (flow_at t.slots id)) (others : (other : ℕ) → other ≢ id → flow_at t.slots other ≡ flow_at s.slots other) (numbers : length t.slots ≡ length s.slots) (capacities : t.capacities ≡ s.capacities) (old new : Levels) (before : IsBetween s old)
    (kept : IsKept s new) (levels : new.levels.items ≡ old.levels.items) (parts : new.parts.items ≡ old.parts.items) (holds : new.holds.items ≡ old.holds.items) (active : new.active ≡ old.active) (stale : new.stale.members ≡ with_mark id old.stale.members) (moved : new.moved.members ≡ with_mark id old.moved.members) where
  uses_stay : (other : ℕ) → uses_at t.slots other ≡ uses_at s.slots other
  uses_stay other = elim (eq_cases other id) [ inl e ↦ subst (λ n. uses_at t.slots n ≡ uses_at s.slots n) (sym e) uses | inr ne ↦ ap uses_in (others other ne) ]

  -- what isn't stale now is another flow, and wasn't stale
  fresh_one : (other : ℕ) → is_in other new.stale.members ≡ false → (other ≢ id) × (is_in other old.stale.members ≡ false)
  fresh_one other off = (
    λ e. true≢false (sym (subst (λ m. is_in id m ≡ true) (sym stale) (mark_there id old.stale.members)) ∙ sym (ap (λ n. is_in n new.stale.members) e) ∙ off),
    elim (bool_cases (is_in other old.stale.members)) [
      | inl on ↦ absurd (true≢false (sym (subst (λ m. is_in other m ≡ true) (sym stale) (mark_stays other id old.stale.members on)) ∙ off))
      | inr none ↦ none
    ],
  )

  was_held : (other : ℕ) → IsSome (flow_at t.slots other) → IsSome (flow_at s.slots other)
  was_held other some = elim (eq_cases other id) [ inl e ↦ subst (λ n. IsSome (flow_at s.slots n)) (sym e) held | inr ne ↦ subst IsSome (others other ne) some ]

  bounded_kept : IsKept t new
  bounded_kept =
      let places = kept.places in
      let caps = ap length capacities in
      system_kept s t sound sound' new kept (record {
        sound = sound';
        levels = omega (arith, places.levels, numbers);
        parts = omega (arith, places.parts, numbers);
        moved = omega (arith, places.moved, numbers);
        stale = omega (arith, places.stale, numbers);
        holds = places.holds ∙ sym caps;
        demands = places.demands ∙ sym caps;
        counts = places.counts ∙ sym caps;
        active = places.active ∙ sym caps;
      })
      (λ other. inl (uses_stay other))
      (λ other gone. elim (eq_cases other id) [
        | inl e ↦ absurd (true≢false (sym (subst IsSome (ap (flow_at t.slots) (sym e) ∙ gone) held')))
        | inr ne ↦ inl (sym (others other ne) ∙ gone)
      ])
      (λ other. subst (λ row. length row ≤ new.longest) (sym (uses_stay other)) (kept.longest other)) (λ c. omega (arith, kept.counts c, users_same s t sound sound' c (λ other. ap (times c) (uses_stay other))))

  pub bounded_between : IsBetween t new
  bounded_between =
      between_changed s t sound sound' old new old.stale.members new.stale.members before (record {
        as_many = ap length capacities;
        capacities = λ r off. ap (λ cs. slice_index cs r) capacities;
        marks = λ r off. sym (ap (λ (m : MarkSet). is_active m.members r) active) ∙ off;
        flows = λ other. elim (bool_cases (is_in other new.stale.members)) [
          | inl on ↦ inr (inl (record { uses = λ r u. ap (is_in r) (uses_stay other) ∙ u; now = on }))
          | inr off ↦ let is = fresh_one other off in inl (record { flow = others other is.0; level = ap (λ ls. level_at ls other) levels; still = λ o. is.1 })
        ];
      }) holds bounded_kept
      (λ other some off.
      let is = fresh_one other off in
      ap (λ ps. slice_index ps other) parts ∙ before.parts other (was_held other some) is.1 ∙ asks_same s t old.levels.items new.levels.items other (others other is.0) (ap (λ ls. level_at ls other) levels))
      (λ other i. elim (eq_cases other id) [
        | inl e ↦ subst (λ n. IsSome (flow_at t.slots n)) (sym e) held'
        | inr ne ↦ elim (marked_or other id old.stale.members (subst (λ m. is_in other m ≡ true) stale i)) [
          | inl e ↦ absurd (ne e)
          | inr on ↦ subst IsSome (sym (others other ne)) (before.alive other on)
        ]
      ])

  pub bounded_notes : NotesChanged s t old new
  bounded_notes = notes_one s t old new id others (λ other ne. ap (λ ls. level_at ls other) levels) moved

-- ---- a resource has another capacity
module _ (s t : Sharing) (sound : IsSound s) (sound' : IsSound t) (c : ℕ) (slots : t.slots ≡ s.slots) (as_many : length t.capacities ≡ length s.capacities) (others : (r : ℕ) → r ≢ c → slice_index t.capacities r ≡ slice_index s.capacities r) (old new : Levels) (before : IsBetween s old) (kept : IsKept s new)
    (levels : new.levels.items ≡ old.levels.items) (parts : new.parts.items ≡ old.parts.items) (holds : new.holds.items ≡ old.holds.items) (active : new.active.members ≡ with_mark c old.active.members) (stale : new.stale ≡ old.stale) (moved : new.moved ≡ old.moved) where
  flow_stays : (id : ℕ) → flow_at t.slots id ≡ flow_at s.slots id
  flow_stays id = ap (λ slots. flow_at slots id) slots

  offered_kept : IsKept t new
  offered_kept =
      let places = kept.places in
      let numbers = ap length slots in
      system_kept s t sound sound' new kept (record {
        sound = sound';
        levels = omega (arith, places.levels, numbers);
        parts = omega (arith, places.parts, numbers);
        moved = omega (arith, places.moved, numbers);
        stale = omega (arith, places.stale, numbers);
        holds = places.holds ∙ sym as_many;
        demands = places.demands ∙ sym as_many;
        counts = places.counts ∙ sym as_many;
        active = places.active ∙ sym as_many;
      })
      (λ id. inl (ap uses_in (flow_stays id))) (λ id gone. inl (sym (flow_stays id) ∙ gone)) (λ id. subst (λ o. length (uses_in o) ≤ new.longest) (sym (flow_stays id)) (kept.longest id)) (λ c. omega (arith, kept.counts c, users_same s t sound sound' c (λ id. ap (λ o. times c (uses_in o)) (flow_stays id))))

  other_one : (r : ℕ) → is_active new.active.members r ≡ false → (r ≢ c) × (is_active old.active.members r ≡ false)
  other_one r off = off_mark r c old.active.members (subst (λ marks. is_active marks r ≡ false) active off)

  pub offered_between : IsBetween t new
  offered_between = subst (IsBetweenBut t new) (sym (ap (λ (m : MarkSet). m.members) stale)) (
      between_changed s t sound sound' old new old.stale.members old.stale.members before (record {
        as_many = as_many;
        capacities = λ r off. others r (other_one r off).0;
        marks = λ r off. (other_one r off).1;
        flows = λ id. inl (record { flow = flow_stays id; level = ap (λ ls. level_at ls id) levels; still = λ off. off });
      }) holds offered_kept
      (λ id held off. ap (λ ps. slice_index ps id) parts ∙ before.parts id (subst IsSome (flow_stays id) held) off ∙ asks_same s t old.levels.items new.levels.items id (flow_stays id) (ap (λ ls. level_at ls id) levels))
      (λ id i. subst IsSome (sym (flow_stays id)) (before.alive id i)))

  pub offered_notes : NotesChanged s t old new
  offered_notes = notes_same s t old new flow_stays (λ id. ap (λ ls. level_at ls id) levels) (ap (λ (m : MarkSet). m.members) moved)

-- what another bound leaves of the system
pub record IsRebound (s t : Sharing) (id bound : ℕ) : Type 0 where
  pub its : Flow
  pub was : flow_at s.slots id ≡ Some its
  pub here : flow_at t.slots id ≡ Some (record its { bound = Some bound })
  pub others : (other : ℕ) → other ≢ id → flow_at t.slots other ≡ flow_at s.slots other
  pub numbers : length t.slots ≡ length s.slots
  pub capacities : t.capacities ≡ s.capacities

pub rebound : (s t : Sharing) (id bound : ℕ) → IsSome (flow_at s.slots id) → IfSome (flow_at s.slots id) (λ (f : Flow). t ≡ record s { slots = set s.slots id (Some (record f { bound = Some bound })) }) → IsRebound s t id bound
rebound s t id bound held told =
    let f = some_of (flow_at s.slots id) held in
    let next = Some (record f.0 { bound = Some bound }) in
    let is : t ≡ record s { slots = set s.slots id next } = subst (λ o. IfSome o (λ (f : Flow). t ≡ record s { slots = set s.slots id (Some (record f { bound = Some bound })) })) f.1 told in
    let slots : t.slots ≡ set s.slots id next = ap (λ (x : Sharing). x.slots) is in
    record {
      its = f.0;
      was = f.1;
      here = ap (λ xs. flow_at xs id) slots ∙ get_or-set_same s.slots id next None (flow_below s.slots id f.0 f.1);
      others = λ other ne. ap (λ xs. flow_at xs other) slots ∙ get_or-set_other s.slots id other next None ne;
      numbers = ap length slots ∙ length-set s.slots id next;
      capacities = ap (λ (x : Sharing). x.capacities) is;
    }

-- the same bound leaves the flow
pub same_flow : (s t : Sharing) (id bound : ℕ) (is : IsRebound s t id bound) → is.its.bound ≡ Some bound → (other : ℕ) → flow_at t.slots other ≡ flow_at s.slots other
same_flow s t id bound is same other = elim (eq_cases other id) [
  | inl e ↦ subst (λ n. flow_at t.slots n ≡ flow_at s.slots n) (sym e) (is.here ∙ ap (λ b. Some (record is.its { bound = b })) (sym same) ∙ sym is.was)
  | inr ne ↦ is.others other ne
]
