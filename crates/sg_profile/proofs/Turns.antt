-- Turns of a profile follow one another.
use Rattle.std.proofs.Common.{◌≡◌, ℕ, zero, suc, ◌+◌, ◌-◌, ◌*◌, ◌==◌, ◌<◌, Bool, true, false, cond, Option, None, Some, option_map, slice_get, slice_index, length, refl, ap, ◌∙◌, eq-eqb, ne_eqb, arith}
use Rattle.std.proofs.lemmas.Option.{slice_get-get_or}
use Rattle.sg_profile.specs.declared.turn.Turn.{Turn}
use Rattle.sg_profile.specs.Laws.{LoopsComeAgain, OthersComeOnce, turn_past}
use Rattle.sg_profile.specs.declared.profile.Profile.{Profile}
use Rattle.sg_profile.specs.Profiles.{next_entry_date, turn_after, turn_time}
use Rattle.sg_profile.proofs.Cases.{turn_over}
use Rattle.sg_profile.proofs.Rising.{time_is}

abbrev turn : ℕ → ℕ → Turn
turn number entry = record { number = number; entry = entry }

abbrev after_by : Profile → Turn → Bool → Turn
after_by profile its last = cond last (turn_over profile.gap its) (record its { entry = its.entry + 1 })

-- ---- with a gap
module _ (profile : Profile) (gap : ℕ) (some : profile.gap ≡ Some gap) where
  -- within a turn
  entry_after : (k i : ℕ) → i + 1 < length profile.dates → turn_after profile (turn k i) ≡ turn k (i + 1)
  entry_after k i less = ap (after_by profile (turn k i)) (ne_eqb (i + 1) (length profile.dates) (λ e. omega (arith, less, e)))

  -- after the last entry
  turn_next : (k i : ℕ) → i + 1 ≡ length profile.dates → turn_after profile (turn k i) ≡ turn (k + 1) 0
  turn_next k i last =
      ap (after_by profile (turn k i)) (eq-eqb (i + 1) (length profile.dates) last)
      ∙ ap (λ (o : Option ℕ). turn_over o (turn k i)) some

  entries_within : (k from : ℕ) → turn_past profile from ≡ turn k 0 → (i : ℕ) → i < length profile.dates → turn_past profile (from + i) ≡ turn k i
  unfolding turn_past
  entries_within k from begun zero less =
      let here : from + 0 ≡ from = omega arith in
      ap (turn_past profile) here ∙ begun
  entries_within k from begun (suc i) less =
      let more : from + suc i ≡ suc (from + i) = omega arith in
      let entry : i + 1 ≡ suc i = omega arith in
      ap (turn_past profile) more
      ∙ ap (turn_after profile) (entries_within k from begun i (omega (arith, less)))
      ∙ entry_after k i (omega (arith, less))
      ∙ ap (turn k) entry

  turns_begin : (last k : ℕ) → last + 1 ≡ length profile.dates → turn_past profile (k * length profile.dates) ≡ turn k 0
  unfolding turn_past
  turns_begin last zero is =
      let none : 0 * length profile.dates ≡ 0 = omega arith in
      ap (turn_past profile) none
  turns_begin last (suc k) is =
      let more : suc k * length profile.dates ≡ suc (k * length profile.dates + last) = omega (arith, is) in
      let number : k + 1 ≡ suc k = omega arith in
      ap (turn_past profile) more
      ∙ ap (turn_after profile) (entries_within k (k * length profile.dates) (turns_begin last k is) last (omega (arith, is)))
      ∙ turn_next k last is
      ∙ ap (λ (n : ℕ). turn n 0) number

pub loops_come_again : LoopsComeAgain
loops_come_again profile gap k i some less =
    let dates = profile.dates in
    let begun = turns_begin profile gap some (length dates - 1) k (omega (arith, less)) in
    let there = entries_within profile gap some k (k * length dates) begun i less in
    let date : next_entry_date profile (turn k i) ≡ Some (k * turn_time profile + slice_index dates i) = ap (option_map (λ date. k * turn_time profile + date)) (slice_get-get_or dates i 0 less) in
    ap (next_entry_date profile) there ∙ date ∙ ap (λ (time : ℕ). Some (k * time + slice_index dates i)) (time_is profile gap some)

-- ---- without
once : (profile : Profile) → profile.gap ≡ None → (i : ℕ) → turn_past profile i ≡ turn 0 i
unfolding turn_past
once profile none zero = refl
once profile none (suc i) =
    let entry : i + 1 ≡ suc i = omega arith in
    ap (turn_after profile) (once profile none i) ∙ by (i + 1 == length profile.dates) ∙ ap (turn 0) entry
  where
    by : (c : Bool) → after_by profile (turn 0 i) c ≡ turn 0 (i + 1)
    by true = ap (λ (o : Option ℕ). turn_over o (turn 0 i)) none
    by false = refl

from_zero : (time : ℕ) (o : Option ℕ) → option_map (λ date. 0 * time + date) o ≡ o
from_zero time None = refl
from_zero time (Some date) = ap Some (omega arith)

pub others_come_once : OthersComeOnce
others_come_once profile i none = ap (next_entry_date profile) (once profile none i) ∙ from_zero (turn_time profile) (slice_get profile.dates i)
