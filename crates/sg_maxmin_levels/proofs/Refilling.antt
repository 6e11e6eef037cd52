-- The result of a max-min solve is written.
use Rattle.std.proofs.Common.{◌≡◌, ◌≢◌, ℕ, ◌+◌, ◌^◌, ◌<◌, ◌≤◌, ◌⊎◌, inl, inr, Bool, true, false, ◌||◌, is_none, true≢false, IsSome, Option, None, Some, List, [], ◌∷◌, ◌++◌, length, get_or, get_or-set_same, get_or-set_other, set, take, slice_index, sum_by, refl, sym, ap, subst, ◌∙◌, arith}
use Rattle.std.proofs.lemmas.List.{take_more}
use Rattle.sg_base.specs.MarkSet.{MarkSet, is_in}
use Rattle.sg_maxmin.specs.Chained.{users_on}
use Rattle.sg_maxmin.specs.Fill.{Flow}
use Rattle.sg_maxmin.specs.Sharing.{Sharing, IsSound, flow_at}
use Rattle.sg_maxmin_levels.specs.declared.levels.Levels.{Levels}
use Rattle.sg_maxmin.specs.Numbered.{flow_in, level_at}
use Rattle.sg_maxmin_levels.specs.Demand.{demand_of}
use Rattle.sg_maxmin.specs.Held.{AreFilled, AreHeld, IsHold}
use Rattle.sg_maxmin_levels.specs.Kept.{AreGiven, AreHeldAt, is_one_of, IsBetween, IsKept, IsMoved, IsRefilled, IsSettling, IsWithin, KeepsFlows, AreParts, IsGiven}
use Rattle.sg_maxmin.specs.Found.{IsFound, PassAlong}
use Rattle.sg_maxmin.proofs.Listed.{bool_cases, eq_cases, in_end, in_more, some_of}
use Rattle.sg_maxmin.proofs.Users.{in_is, in_uses, is_in_In}
use Rattle.sg_maxmin_levels.proofs.Within.{in_append}
use Rattle.sg_maxmin.proofs.HeldLevels.{held_is_filling_lem}
use Rattle.sg_maxmin.proofs.OneHold.{hold_is_local_lem}
use Rattle.sg_maxmin_levels.proofs.Steps.{held_settles_lem}
use Rattle.sg_maxmin_levels.proofs.WayBack.{way_back_lem}

-- ---- one more number of a list
pub in_take : (id : ℕ) (xs : List ℕ) (k : ℕ) → k < length xs → is_in id (take (k + 1) xs) ≡ true → (id ≡ get_or xs k 0) ⊎ (is_in id (take k xs) ≡ true)
in_take id xs k less i = elim (in_append id (get_or xs k 0) (take k xs) (is_in_In id (take k xs ++ get_or xs k 0 ∷ []) (subst (λ ys. is_in id ys ≡ true) (take_more xs k 0 less) i))) [ inl e ↦ inl e | inr j ↦ inr (in_is id (take k xs) j) ]

pub out_take : (id : ℕ) (xs : List ℕ) (k : ℕ) → k < length xs → is_in id (take (k + 1) xs) ≡ false → (id ≢ get_or xs k 0) × (is_in id (take k xs) ≡ false)
out_take id xs k less off =
    let off' : is_in id (take k xs ++ get_or xs k 0 ∷ []) ≡ false = subst (λ ys. is_in id ys ≡ false) (take_more xs k 0 less) off in (
      λ e. true≢false (sym (subst (λ n. is_in n (take k xs ++ get_or xs k 0 ∷ []) ≡ true) (sym e) (in_end (get_or xs k 0) (take k xs))) ∙ off'),
      elim (bool_cases (is_in id (take k xs))) [ inl on ↦ absurd (true≢false (sym (in_more id (get_or xs k 0) (take k xs) on) ∙ off')) | inr none ↦ none ],
    )

-- ---- one more flow is given its level
pub moved_gives : (s : Sharing) (old new : Levels) (flow : ℕ) (level : Option ℕ) → flow < length old.levels.items → flow < length old.parts.items → IsMoved s old new flow level → IsGiven s old new flow level
moved_gives s old new flow level below below' m =
    let part = demand_of (flow_in s.slots flow) level in
    record {
      here = ap (λ ls. level_at ls flow) m.level_is ∙ get_or-set_same old.levels.items flow level None below;
      part = ap (λ ps. slice_index ps flow) m.part_is ∙ get_or-set_same old.parts.items flow part 0 below';
      others = λ id ne. ap (λ ls. level_at ls id) m.level_is ∙ get_or-set_other old.levels.items flow id level None ne;
      other_parts = λ id ne. ap (λ ps. slice_index ps id) m.part_is ∙ get_or-set_other old.parts.items flow id part 0 ne;
      holds = m.holds;
      stale = m.stale;
    }

pub given_on : (s : Sharing) (flows : List ℕ) (levels : List (Option ℕ)) (k : ℕ) (first old new : Levels) → k < length flows → IsGiven s old new (get_or flows k 0) (level_at levels (get_or flows k 0)) →
    AreGiven s (take k flows) levels first old → AreGiven s (take (k + 1) flows) levels first new
given_on s flows levels k first old new less m are =
    let flow = get_or flows k 0 in
    record {
      here = λ id i. elim (eq_cases id flow) [
        | inl e ↦ subst (λ n. level_at new.levels.items n ≡ level_at levels n) (sym e) m.here
        | inr ne ↦ elim (in_take id flows k less i) [ inl e ↦ absurd (ne e) | inr j ↦ m.others id ne ∙ are.here id j ]
      ];
      parts = λ id i. elim (eq_cases id flow) [
        | inl e ↦ subst (λ n. slice_index new.parts.items n ≡ demand_of (flow_in s.slots n) (level_at levels n)) (sym e) m.part
        | inr ne ↦ elim (in_take id flows k less i) [ inl e ↦ absurd (ne e) | inr j ↦ m.other_parts id ne ∙ are.parts id j ]
      ];
      others = λ id off. let out = out_take id flows k less off in m.others id out.0 ∙ are.others id out.1;
      other_parts = λ id off. let out = out_take id flows k less off in m.other_parts id out.0 ∙ are.other_parts id out.1;
      holds = m.holds ∙ are.holds;
      stale = m.stale ∙ are.stale;
    }

-- what isn't stale has its part on the way
pub given_parts : (s : Sharing) (flows : List ℕ) (levels : List (Option ℕ)) (first now : Levels) (id : ℕ) → AreParts s first first.stale.members → AreGiven s flows levels first now → IsSome (flow_at s.slots id) → is_in id now.stale.members ≡ false →
    slice_index now.parts.items id ≡ demand_of (flow_in s.slots id) (level_at now.levels.items id)
given_parts s flows levels first now id parts are held off = elim (bool_cases (is_in id flows)) [
  | inl on ↦ are.parts id on ∙ ap (demand_of (flow_in s.slots id)) (sym (are.here id on))
  | inr out ↦ are.other_parts id out ∙ parts id held (subst (λ (m : MarkSet). is_in id m.members ≡ false) are.stale off) ∙ ap (demand_of (flow_in s.slots id)) (sym (are.others id out))
]

-- ---- one more resource
pub held_on : (resources : List ℕ) (holds : List (Option ℕ)) (k : ℕ) (first old new : Levels) → k < length resources → get_or resources k 0 < length old.holds.items →
    new.holds.items ≡ set old.holds.items (get_or resources k 0) (level_at holds (get_or resources k 0)) → KeepsFlows first new →
    AreHeldAt (take k resources) holds first old → AreHeldAt (take (k + 1) resources) holds first new
held_on resources holds k first old new less below is keeps are =
    let c = get_or resources k 0 in
    let hold = level_at holds c in
    let other_hold : (r : ℕ) → r ≢ c → level_at new.holds.items r ≡ level_at old.holds.items r = λ r ne. ap (λ hs. level_at hs r) is ∙ get_or-set_other old.holds.items c r hold None ne in
    record {
      here = λ r i. elim (eq_cases r c) [
        | inl e ↦ subst (λ n. level_at new.holds.items n ≡ level_at holds n) (sym e) (ap (λ hs. level_at hs c) is ∙ get_or-set_same old.holds.items c hold None below)
        | inr ne ↦ elim (in_take r resources k less i) [ inl e ↦ absurd (ne e) | inr j ↦ other_hold r ne ∙ are.here r j ]
      ];
      others = λ r off. let out = out_take r resources k less off in other_hold r out.0 ∙ are.others r out.1;
      flows = keeps;
    }

-- ---- others are active
rested : (s : Sharing) (all : Levels) (active : MarkSet) → active.room ≡ all.active.room → IsKept s all → IsKept s (record all { active = active })
rested s all active room kept =
    let places = kept.places in
    record {
      places = record { sound = places.sound; levels = places.levels; parts = places.parts; moved = places.moved; stale = places.stale; holds = places.holds; demands = places.demands; counts = places.counts; active = room ∙ places.active };
      demands = kept.demands;
      counts = kept.counts;
      fit = kept.fit;
      none = kept.none;
      longest = kept.longest;
    }

-- ---- all is written
module _ (s : Sharing) (sound : IsSound s) (flows resources : List ℕ) (levels holds : List (Option ℕ)) (old mid new : Levels) (between : IsBetween s old) (along : PassAlong s (λ id. is_in id flows) (λ r. is_in r resources)) (within : IsWithin (is_one_of flows s.slots) (λ r. is_in r resources) old) (found : IsFound s flows resources levels holds)
    (given : AreGiven s flows levels old mid) (held' : AreHeldAt resources holds mid new) where
  level_is : (id : ℕ) → level_at new.levels.items id ≡ level_at mid.levels.items id
  level_is id = ap (λ ls. level_at ls id) held'.flows.levels

  -- what is held is one of these
  held_one : (id : ℕ) (flow : Flow) → flow_at s.slots id ≡ Some flow → is_one_of flows s.slots id ≡ true → is_in id flows ≡ true
  held_one id flow e here = sym (or_none (is_in id flows) (ap is_none e)) ∙ here
    where
      or_none : (b : Bool) {c : Bool} → c ≡ false → (b || c) ≡ b
      or_none true e = refl
      or_none false e = e

  -- and what isn't isn't
  not_one : (id : ℕ) → is_one_of flows s.slots id ≡ false → is_in id flows ≡ false
  not_one id away = first (is_in id flows) (is_none (flow_at s.slots id)) away
    where
      first : (b c : Bool) → (b || c) ≡ false → b ≡ false
      first true c e = e
      first false c e = refl

  along' : PassAlong s (is_one_of flows s.slots) (λ r. is_in r resources)
  along' = record {
    uses = λ id r here u. let f = in_uses s.slots id r u in along.uses id r (held_one id f.0 f.1 here) u;
    users = λ r id here i. ap {B = Bool} (λ b. b || is_none (flow_at s.slots id)) (along.users r id here i);
  }

  refilled : IsRefilled s (is_one_of flows s.slots) (λ r. is_in r resources) old new
  refilled = record {
    filled = λ id flow e here. level_is id ∙ given.here id (held_one id flow e here) ∙ found.filled id flow e (held_one id flow e here);
    other_flows = λ id away. level_is id ∙ given.others id (not_one id away);
    held_at = λ r below here. subst (IsHold (slice_index s.capacities r) s.slots new.levels.items (users_on s.users r)) (sym (held'.here r here))
        (hold_is_local_lem (slice_index s.capacities r) s.slots s.slots levels new.levels.items (users_on s.users r) (level_at holds r) (λ id i. (refl, level_is id ∙ given.here id (along.users r id here i))) (found.holds_are r here));
    other_resources = λ r away. held'.others r away ∙ ap (λ hs. level_at hs r) given.holds;
  }

  all_held : AreHeld s new.levels.items (level_at new.holds.items)
  all_held = way_back_lem s old new (is_one_of flows s.slots) (λ r. is_in r resources) sound between along' within refilled

  pub refilled_levels : AreFilled s new.levels.items
  refilled_levels = held_is_filling_lem s new.levels.items (level_at new.holds.items) sound all_held

  pub refilled_settles : (active : MarkSet) → active.room ≡ new.active.room → IsKept s new → IsSettling s (record new { active = active })
  refilled_settles active room kept = record {
    kept = rested s new active room kept;
    parts = λ id some off. elim (bool_cases (is_in id flows)) [
      | inl here ↦ ap (λ ps. slice_index ps id) held'.flows.parts ∙ given.parts id here ∙ ap (demand_of (flow_in s.slots id)) (sym (level_is id ∙ given.here id here))
      | inr away ↦ ap (λ ps. slice_index ps id) held'.flows.parts ∙ given.other_parts id away ∙ between.parts id some (not_stale id some away) ∙ ap (demand_of (flow_in s.slots id)) (sym (level_is id ∙ given.others id away))
    ];
    written = held_settles_lem s new.levels.items new.holds.items active.members all_held;
  }
    where
      not_stale : (id : ℕ) → IsSome (flow_at s.slots id) → is_in id flows ≡ false → is_in id old.stale.members ≡ false
      not_stale id some away = let f = some_of (flow_at s.slots id) some in elim (bool_cases (is_in id old.stale.members)) [ inl on ↦ absurd (true≢false (sym (held_one id f.0 f.1 (within.stale id on)) ∙ away)) | inr off ↦ off ]

pub written_kept : (s : Sharing) (old new : Levels) → KeepsFlows old new → IsKept s old → IsKept s new
written_kept s old new keeps kept =
    let places = kept.places in
    record {
      places = record {
        sound = places.sound;
        levels = omega (arith, places.levels, ap length keeps.levels);
        parts = omega (arith, places.parts, ap length keeps.parts);
        moved = omega (arith, places.moved, ap (λ (m : MarkSet). m.room) keeps.moved);
        stale = omega (arith, places.stale, ap (λ (m : MarkSet). m.room) keeps.stale);
        holds = keeps.holds ∙ places.holds;
        demands = ap length keeps.demands ∙ places.demands;
        counts = ap length keeps.counts ∙ places.counts;
        active = ap (λ (m : MarkSet). m.room) keeps.active ∙ places.active;
      };
      demands = λ c. ap (λ ds. slice_index ds c) keeps.demands ∙ kept.demands c ∙ ap (λ ps. sum_by (slice_index ps) (users_on s.users c)) (sym keeps.parts);
      counts = λ c. subst (λ ns. slice_index ns c ≤ length (users_on s.users c)) (sym keeps.counts) (kept.counts c);
      fit = λ id. subst (λ ps. slice_index ps id ≤ 2 ^ 65) (sym keeps.parts) (kept.fit id);
      none = λ id gone. ap (λ ps. slice_index ps id) keeps.parts ∙ kept.none id gone;
      longest = λ id. omega (arith, kept.longest id, keeps.longest);
    }
