-- A row's slot follows its turn.
use Rattle.std.proofs.Common.{◌≡◌, ℕ, ◌+◌, ◌-◌, ◌*◌, ◌==◌, ◌<◌, ◌≤◌, ◌^◌, inl, inr, Bool, true, false, cond, Option, None, Some, IsSomeAnd, All, List, length, get_or, set, refl, sym, ap, subst, ◌∙◌, arith}
use Rattle.std.proofs.lemmas.Bool.Decides.{eqb_tells}
use Rattle.std.proofs.lemmas.List.{get_or-set_other, get_or-set_same, get_or_past, length-replicate, length-set}
use Rattle.sg_heap.proofs.Changes.{lt_cases}
use Rattle.sg_heap.specs.Agenda.{Key, key_at}
use Rattle.sg_profile.specs.declared.turn.Turn.{Turn}
use Rattle.sg_profile.specs.declared.profile.Profile.{Profile}
use Rattle.sg_profile.specs.Profiles.{IsSchedule, Timetable, next_entry_date, dates_of, first_turn, first_turns, profile_at, turn_after, turn_time}
use Rattle.sg_profile.proofs.Cases.{turn_over}
use Rattle.sg_profile.specs.kept.Slots.{AreKeys, IsKept, key_by, table_of}
use Rattle.sg_profile.proofs.Dates.{dates_set, length_dates}
use Rattle.sg_profile.proofs.Rising.{date_left, date_small, gap_wide, time_is}

keys_set : (dates : List (Option ℕ)) (keys : List (Option Key)) (row : ℕ) (date : Option ℕ) → AreKeys dates keys → row < length dates → row < length keys → AreKeys (set dates row date) (set keys row (key_by row date))
keys_set dates keys row date are in_dates in_keys other = elim (eqb_tells other row) [
  | inl yes' ↦
      let same = yes'.1 in
      ap (λ (k : ℕ). get_or (set keys row (key_by row date)) k None) same
      ∙ get_or-set_same keys row (key_by row date) None in_keys
      ∙ ap (key_by row) (sym (get_or-set_same dates row date None in_dates))
      ∙ ap (λ (k : ℕ). key_by k (get_or (set dates row date) k None)) (sym same)
  | inr no' ↦
      get_or-set_other keys row other (key_by row date) None no'.1
      ∙ are other
      ∙ ap (key_by other) (sym (get_or-set_other dates row other date None no'.1))
]

-- at first
pub first_kept : (profiles : List Profile) (turns : List Turn) (keys : List (Option Key)) → length profiles ≤ 8192 → All IsSchedule profiles → turns ≡ first_turns profiles
    → length keys ≡ length profiles → AreKeys (dates_of profiles turns) keys → IsKept (table_of profiles turns) keys
first_kept profiles turns keys few schedules first slots are = record {
  few = few;
  schedules = schedules;
  turns = ap length first ∙ length-replicate (length profiles) first_turn;
  slots = slots;
  keys = are;
}

-- a row has another turn, and its slot the date of that
pub step_kept : (table : Timetable) (keys : List (Option Key)) (row : ℕ) (turn : Turn) → IsKept table keys → row < length table.profiles
    → IsKept (record table { turns = set table.turns row turn }) (set keys row (key_by row (next_entry_date (profile_at table.profiles row) turn)))
step_kept table keys row turn kept within =
    let date = next_entry_date (profile_at table.profiles row) turn in
    let n = length_dates table.profiles table.turns kept.turns in
    let now : AreKeys (set (dates_of table.profiles table.turns) row date) (set keys row (key_by row date)) =
    keys_set (dates_of table.profiles table.turns) keys row date kept.keys (omega (arith, n, within)) (omega (arith, kept.slots, within)) in
    record {
      few = kept.few;
      schedules = kept.schedules;
      turns = length-set table.turns row turn ∙ kept.turns;
      slots = length-set keys row (key_by row date) ∙ kept.slots;
      keys = subst (λ (dates : List (Option ℕ)). AreKeys dates (set keys row (key_by row date))) (sym (dates_set table.profiles table.turns row turn)) now;
    }

-- all slots that there are have their dates
pub all_keys : (profiles : List Profile) (turns : List Turn) (keys : List (Option Key)) → length turns ≡ length profiles → length keys ≡ length profiles
    → ((row : ℕ) → row < length profiles → key_at keys row ≡ key_by row (get_or (dates_of profiles turns) row None)) → AreKeys (dates_of profiles turns) keys
all_keys profiles turns keys same slots each row = elim (lt_cases row (length profiles)) [
  | inl within ↦ each row within
  | inr past ↦
      let n = length_dates profiles turns same in
      get_or_past keys row None (omega (arith, slots, past))
      ∙ ap (key_by row) (sym (get_or_past (dates_of profiles turns) row None (omega (arith, n, past))))
]

-- one slot more has its date
pub keys_more : (dates : List (Option ℕ)) (keys : List (Option Key)) (row : ℕ) → row < length keys
    → ((i : ℕ) → i < row → key_at keys i ≡ key_by i (get_or dates i None)) → (i : ℕ) → i < row + 1 → key_at (set keys row (key_by row (get_or dates row None))) i ≡ key_by i (get_or dates i None)
keys_more dates keys row within each i less = elim (eqb_tells i row) [
  | inl yes' ↦
      let same = yes'.1 in
      ap (λ (k : ℕ). get_or (set keys row (key_by row (get_or dates row None))) k None) same
      ∙ get_or-set_same keys row (key_by row (get_or dates row None)) None within
      ∙ ap (λ (k : ℕ). key_by k (get_or dates k None)) (sym same)
  | inr no' ↦
      let below : i < row = omega (arith, less, no'.1) in
      get_or-set_other keys row i (key_by row (get_or dates row None)) None no'.1 ∙ each i below
]

-- the next turn begins before so long
pub after_small : (profile : Profile) (turn : Turn) (date : ℕ) → IsSchedule profile → next_entry_date profile turn ≡ Some date → date < 10 ^ 33 → (turn_after profile turn).number * turn_time profile < 10 ^ 34
after_small profile turn date is there small = by (turn.entry + 1 == length profile.dates)
  where
    begun : turn.number * turn_time profile < 10 ^ 33
    begun = let left = date_left profile turn date there in omega (arith, left.date_is, small)

    over : (gap : Option ℕ) → profile.gap ≡ gap → (turn_over gap turn).number * turn_time profile < 10 ^ 34
    over None none = omega (arith, begun)
    over (Some gap) some =
        let time = time_is profile gap some in
        let wide = gap_wide profile gap is some in
        let last = date_small profile (length profile.dates - 1) is (omega (arith, is.some)) in
        let more : (turn.number + 1) * turn_time profile ≡ turn.number * turn_time profile + turn_time profile = omega arith in
        omega (arith, begun, time, wide.1, last, more)

    by : (c : Bool) → (cond c (turn_over profile.gap turn) (record turn { entry = turn.entry + 1 })).number * turn_time profile < 10 ^ 34
    by true = over profile.gap refl
    by false = omega (arith, begun)

pub some_and : (o : Option ℕ) (P : ℕ → Type 0) → IsSomeAnd o P → (x : ℕ) × (o ≡ Some x) × P x
some_and None P is = absurd is
some_and (Some x) P is = (x, refl, is)
