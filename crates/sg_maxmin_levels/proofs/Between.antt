-- What is kept between rate updates.
use Rattle.std.proofs.Common.{◌≡◌, ◌≢◌, ℕ, ◌+◌, ◌<◌, ◌≤◌, inl, inr, true, false, true≢false, cond, eq-eqb, Option, None, Some, IsSome, List, [], ◌∷◌, length, slice_index, sum_by, refl, sym, ap, ap₂, subst, ◌∙◌, arith}
use Rattle.sg_base.specs.MarkSet.{MarkSet, is_in, with_mark}
use Rattle.sg_maxmin.specs.Chained.{times, users_on}
use Rattle.sg_maxmin.specs.Fill.{Flow, flow, level_of, share_at}
use Rattle.sg_maxmin.specs.Sharing.{Sharing, IsSound, Changes, flow_at, held, uses_at, uses_in}
use Rattle.sg_maxmin.proofs.Sums.{sum_by_same}
use Rattle.sg_maxmin_levels.specs.declared.levels.Levels.{Levels}
use Rattle.sg_maxmin.specs.Numbered.{flow_in, level_at, row_waiting, slot_bound, slot_weight}
use Rattle.sg_maxmin_levels.specs.Demand.{demand_of}
use Rattle.sg_maxmin.specs.Held.{IsHold}
use Rattle.sg_maxmin_levels.specs.Settling.{AreMarked, AreSettlingBut, is_active}
use Rattle.sg_maxmin_levels.specs.Kept.{AreParts, HasRoom, IsBetween, IsBetweenBut, IsFresh, IsKept, KeepsAll, MarksNoMore, NotesChanged, NotesMoved, SharesAreNoted}
use Rattle.sg_maxmin.proofs.Listed.{bool_cases, eq_cases, mark_stays, mark_there, none_some, some_same, times-cons}
use Rattle.sg_maxmin_levels.proofs.Joined.{users_same}
use Rattle.sg_maxmin_levels.proofs.Keeping.{system_kept}
use Rattle.sg_maxmin_levels.proofs.Marked.{changes_keep_lem}

-- ---- nothing yet
no_row : (row : List ℕ) → ((id : ℕ) → times id row ≡ 0) → row ≡ []
no_row [] none = refl
no_row (x ∷ row) none = absurd (more (times x row) (sym (times-cons x x row ∙ ap {B = ℕ} (λ b. cond b 1 0 + times x row) (eq-eqb x x refl)) ∙ none x))
  where
    more : (n : ℕ) → 1 + n ≡ 0 → ⊥
    more n e = omega (arith, e)

none_held : (s : Sharing) → s.slots ≡ [] → (id : ℕ) → flow_at s.slots id ≡ None
none_held s empty id = ap (λ slots. flow_at slots id) empty

no_users : (s : Sharing) → IsSound s → s.slots ≡ [] → (c : ℕ) → users_on s.users c ≡ []
no_users s sound empty c = no_row (users_on s.users c) (λ id. sound.both id c ∙ ap (λ o. times c (uses_in o)) (none_held s empty id))

not_held : (o : Option Flow) → o ≡ None → IsSome o → ⊥
not_held None e some = true≢false (sym some)
not_held (Some f) e some = cc e

none_holds : (capacity : ℕ) (slots : List (Option Flow)) (levels : List (Option ℕ)) → IsHold capacity slots levels [] None
unfolding row_waiting
none_holds capacity slots levels = record { above = λ x u w. absurd (none w); met = tt }
  where
    none : 0 < 0 → ⊥
    none h = omega (arith, h)

pub fresh : (kept : Levels) (resources : ℕ) → length kept.holds.items ≡ resources → length kept.demands.items ≡ resources → length kept.counts.items ≡ resources → kept.active.room ≡ resources → ((i : ℕ) → level_at kept.holds.items i ≡ None) → ((i : ℕ) → slice_index kept.demands.items i ≡ 0) → ((i : ℕ) → slice_index kept.parts.items i ≡ 0) → ((i : ℕ) → slice_index kept.counts.items i ≡ 0) → kept.stale.members ≡ [] →
    IsFresh resources kept
fresh kept resources holds_len demands_len counts_len active_len holds demands parts counts none_stale s sound empty as_many =
    let few : length s.slots ≡ 0 = ap (λ (xs : List (Option Flow)). length xs) empty in
    record {
      kept = record {
        places = record {
          sound = sound;
          levels = omega (arith, few);
          parts = omega (arith, few);
          moved = omega (arith, few);
          stale = omega (arith, few);
          holds = holds_len ∙ sym as_many;
          demands = demands_len ∙ sym as_many;
          counts = counts_len ∙ sym as_many;
          active = active_len ∙ sym as_many;
        };
        demands = λ c. demands c ∙ sym (ap (sum_by (slice_index kept.parts.items)) (no_users s sound empty c));
        counts = λ c. omega (arith, counts c);
        fit = λ id. omega (arith, parts id);
        none = λ id e. parts id;
        longest = λ id. let none : length (uses_at s.slots id) ≡ 0 = ap (λ o. length (uses_in o)) (none_held s empty id) in omega (arith, none);
      };
      parts = λ id held off. absurd (not_held (flow_at s.slots id) (none_held s empty id) held);
      alive = λ id i. absurd (true≢false (sym (subst (λ m. is_in id m ≡ true) none_stale i)));
      written = record {
        resources = λ r l clean none. subst (IsHold (slice_index s.capacities r) s.slots kept.levels.items (users_on s.users r)) (sym (holds r)) (subst (λ row. IsHold (slice_index s.capacities r) s.slots kept.levels.items row None) (sym (no_users s sound empty r)) (none_holds (slice_index s.capacities r) s.slots kept.levels.items));
        within = λ id flow e off. absurd (not_held (flow_at s.slots id) (none_held s empty id) (subst IsSome (sym e) refl));
        under = λ id r flow e off u clean. absurd (not_held (flow_at s.slots id) (none_held s empty id) (subst IsSome (sym e) refl));
        cause = λ id flow e off. absurd (not_held (flow_at s.slots id) (none_held s empty id) (subst IsSome (sym e) refl));
      };
    }

-- ---- more room
pub grown_kept : (s : Sharing) (old new : Levels) → KeepsAll old new → IsKept s old → IsKept s new
grown_kept s old new keeps kept =
    let places = kept.places in
    record {
      places = record {
        sound = places.sound;
        levels = omega (arith, places.levels, keeps.levels_room);
        parts = omega (arith, places.parts, keeps.parts_room);
        moved = omega (arith, places.moved, keeps.moved_room);
        stale = omega (arith, places.stale, keeps.stale_room);
        holds = ap length keeps.holds ∙ places.holds;
        demands = ap length keeps.demands ∙ places.demands;
        counts = ap length keeps.counts ∙ places.counts;
        active = ap (λ (m : MarkSet). m.room) keeps.active ∙ places.active;
      };
      demands = λ c. ap (λ ds. slice_index ds c) keeps.demands ∙ kept.demands c ∙ sum_by_same (slice_index old.parts.items) (slice_index new.parts.items) (users_on s.users c) (λ id i. sym (keeps.parts id));
      counts = λ c. subst (λ ns. slice_index ns c ≤ length (users_on s.users c)) (sym keeps.counts) (kept.counts c);
      fit = λ id. omega (arith, keeps.parts id, kept.fit id);
      none = λ id gone. keeps.parts id ∙ kept.none id gone;
      longest = λ id. omega (arith, keeps.longest, kept.longest id);
    }

pub no_more : (old new : Levels) → KeepsAll old new → MarksNoMore old new
no_more old new keeps p q are = record {
  active = λ r on. are.active r (subst (λ (m : MarkSet). is_active m.members r ≡ true) keeps.active on);
  moved = λ id i. are.moved id (subst (λ m. is_in id m ≡ true) keeps.moved i);
  stale = λ id i. are.stale id (subst (λ m. is_in id m ≡ true) keeps.stale i);
}

abbrev flow_of : Option Flow → Flow
flow_of o = flow (uses_in o) (slot_weight o) (slot_bound o)

-- what a flow asks for stays, as it and its level do
pub asks_same : (s t : Sharing) (levels levels' : List (Option ℕ)) (id : ℕ) → flow_at t.slots id ≡ flow_at s.slots id → level_at levels' id ≡ level_at levels id → demand_of (flow_in s.slots id) (level_at levels id) ≡ demand_of (flow_in t.slots id) (level_at levels' id)
asks_same s t levels levels' id e l = ap₂ (λ o x. demand_of (flow_of o) x) (sym e) (sym l)

-- ---- a change that marks what it touches
pub between_changed : (s t : Sharing) → IsSound s → IsSound t → (old new : Levels) (stale stale' : List ℕ) → IsBetweenBut s old stale → AreMarked s t old.levels.items new.levels.items old.active.members new.active.members stale stale' → new.holds.items ≡ old.holds.items → IsKept t new → AreParts t new stale' →
    ((id : ℕ) → is_in id stale' ≡ true → IsSome (flow_at t.slots id)) → IsBetweenBut t new stale'
between_changed s t sound sound' old new stale stale' before marked holds kept parts alive = record {
  kept = kept;
  parts = parts;
  alive = alive;
  written = subst (λ hs. AreSettlingBut t new.levels.items hs new.active.members stale') (sym holds) (changes_keep_lem s t old.levels.items new.levels.items old.holds.items old.active.members new.active.members stale stale' sound sound' marked before.written);
}

pub between_grown : (s : Sharing) → IsSound s → (old new : Levels) → KeepsAll old new → IsBetween s old → IsBetween s new
between_grown s sound old new keeps before = subst (IsBetweenBut s new) (sym keeps.stale) (
    between_changed s s sound sound old new old.stale.members old.stale.members before (record {
      as_many = refl;
      capacities = λ r off. refl;
      marks = λ r off. sym (ap (λ (m : MarkSet). is_active m.members r) keeps.active) ∙ off;
      flows = λ id. inl (record { flow = refl; level = keeps.levels id; still = λ off. off });
    }) keeps.holds (grown_kept s old new keeps before.kept)
    (λ id held off. keeps.parts id ∙ before.parts id held off ∙ asks_same s s old.levels.items new.levels.items id refl (keeps.levels id)) before.alive)

-- ---- the same flows under their numbers, of which there may be more
pub between_extended : (s t : Sharing) → IsSound s → IsSound t → (kept : Levels) → length t.capacities ≡ length s.capacities → ((r : ℕ) → slice_index t.capacities r ≡ slice_index s.capacities r) → ((id : ℕ) → flow_at t.slots id ≡ flow_at s.slots id) → HasRoom (length t.slots) kept → IsBetween s kept → IsBetween t kept
between_extended s t sound sound' kept caps capacities same room before =
    let places = before.kept.places in
    let held : (id : ℕ) → IsSome (flow_at t.slots id) → IsSome (flow_at s.slots id) = λ id some. subst IsSome (same id) some in
    between_changed s t sound sound' kept kept kept.stale.members kept.stale.members before (record {
      as_many = caps;
      capacities = λ r off. capacities r;
      marks = λ r off. off;
      flows = λ id. inl (record { flow = same id; level = refl; still = λ off. off });
    }) refl
    (system_kept s t sound sound' kept before.kept (record {
      sound = sound';
      levels = room.levels;
      parts = room.parts;
      moved = room.moved;
      stale = room.stale;
      holds = places.holds ∙ sym caps;
      demands = places.demands ∙ sym caps;
      counts = places.counts ∙ sym caps;
      active = places.active ∙ sym caps;
    }) (λ id. inl (ap uses_in (same id))) (λ id gone. inl (sym (same id) ∙ gone)) (λ id. subst (λ o. length (uses_in o) ≤ kept.longest) (sym (same id)) (before.kept.longest id)) (λ c. omega (arith, before.kept.counts c, users_same s t sound sound' c (λ id. ap (λ o. times c (uses_in o)) (same id)))))
    (λ id some off. before.parts id (held id some) off ∙ asks_same s t kept.levels.items kept.levels.items id (same id) refl) (λ id i. subst IsSome (sym (same id)) (before.alive id i))

-- ---- what is noted
pub notes_same : (s t : Sharing) (old new : Levels) → ((id : ℕ) → flow_at t.slots id ≡ flow_at s.slots id) → ((id : ℕ) → level_at new.levels.items id ≡ level_at old.levels.items id) → new.moved.members ≡ old.moved.members → NotesChanged s t old new
notes_same s t old new flows levels moved = record {
  grows = λ id i. subst (λ m. is_in id m ≡ true) (sym moved) i;
  same = λ id f e off. (sym (flows id) ∙ e, levels id);
}

pub notes_one : (s t : Sharing) (old new : Levels) (id : ℕ) → ((other : ℕ) → other ≢ id → flow_at t.slots other ≡ flow_at s.slots other) → ((other : ℕ) → other ≢ id → level_at new.levels.items other ≡ level_at old.levels.items other) → new.moved.members ≡ with_mark id old.moved.members → NotesChanged s t old new
notes_one s t old new id flows levels moved = record {
  grows = λ other i. subst (λ m. is_in other m ≡ true) (sym moved) (mark_stays other id old.moved.members i);
  same = λ other f e off. elim (eq_cases other id) [
    | inl same ↦ absurd (true≢false (sym (subst (λ m. is_in id m ≡ true) (sym moved) (mark_there id old.moved.members)) ∙ sym (ap (λ n. is_in n new.moved.members) same) ∙ off))
    | inr ne ↦ (sym (flows other ne) ∙ e, levels other ne)
  ];
}

pub notes_gone : (s t : Sharing) (old new : Levels) (id : ℕ) → Changes s.slots t.slots id None → ((other : ℕ) → level_at new.levels.items other ≡ level_at old.levels.items other) → new.moved.members ≡ old.moved.members → NotesChanged s t old new
notes_gone s t old new id changes levels moved = record {
  grows = λ other i. subst (λ m. is_in other m ≡ true) (sym moved) i;
  same = λ other f e off. elim (eq_cases other id) [
    | inl same ↦ absurd (none_some (sym changes.changed ∙ sym (ap (flow_at t.slots) same) ∙ e))
    | inr ne ↦ (sym (changes.others other ne) ∙ e, levels other)
  ];
}

pub notes_moved : (s : Sharing) (old new : Levels) → NotesMoved old new → NotesChanged s s old new
notes_moved s old new notes = record { grows = notes.grows; same = λ id f e off. (e, notes.kept id off) }

pub notes_on : (s t u : Sharing) (a b c : Levels) → NotesChanged s t a b → NotesChanged t u b c → NotesChanged s u a c
notes_on s t u a b c first then = record {
  grows = λ id i. then.grows id (first.grows id i);
  same = λ id f e off.
      let last = then.same id f e off in
      let off' : is_in id b.moved.members ≡ false = elim (bool_cases (is_in id b.moved.members)) [ inl on ↦ absurd (true≢false (sym (then.grows id on) ∙ off)) | inr no_mark ↦ no_mark ] in
      let before = first.same id f last.0 off' in
      (before.0, last.1 ∙ before.1);
}

pub shares_noted : SharesAreNoted
shares_noted s t old new notes before after id flow e off =
    let was = notes.same id flow e off in
    let same : level_of s.capacities (held s.slots) flow ≡ level_of t.capacities (held t.slots) flow = some_same _ _ (sym (before id flow was.0) ∙ sym was.1 ∙ after id flow e) in
    (was.0, ap (share_at flow) same)
