-- Rows of a date follow one another, and no entry is overdue.
use Rattle.std.proofs.Common.{◌≡◌, ◌≢◌, ℕ, zero, suc, ◌+◌, ◌-◌, ◌*◌, ◌<◌, ◌≤◌, ◌^◌, inl, inr, Option, None, Some, List, [], ◌∷◌, length, get_or, set, IfSome, refl, sym, ap, subst, ◌∙◌, arith}
use Rattle.std.proofs.lemmas.Bool.Decides.{eqb_tells}
use Rattle.std.proofs.lemmas.List.{get_or-replicate, get_or-set_other}
use Rattle.sg_profile.specs.declared.turn.Turn.{Turn}
use Rattle.sg_profile.specs.Ahead.{IsNear}
use Rattle.sg_profile.specs.Laws.{AheadAtFirst, AheadMoves, AheadSteps, NextIsNear, NoneIsBefore, RowsAreLeft}
use Rattle.sg_profile.specs.declared.profile.Profile.{Profile}
use Rattle.sg_profile.specs.Profiles.{AreProfiles, IsSchedule, next_entry_date, dates_of, earliest, first_turn, first_turns, profile_at, rows_due, rows_due_from, turns_after_row, turn_after, turn_at}
use Rattle.sg_profile.proofs.Cases.{no_profile}
use Rattle.sg_profile.proofs.Dates.{IsDated, dates_set, row_dated}
use Rattle.sg_profile.proofs.Earliest.{earliest_held, earliest_to}
use Rattle.sg_profile.proofs.Rising.{date_left, date_small, entries_rise}
use Rattle.sg_profile.proofs.RowsOfDate.{first_there, none_there, rest_there}

-- the date that a row has once it is past its next entry
abbrev date_after : List Profile → List Turn → ℕ → Option ℕ
date_after profiles turns row = next_entry_date (profile_at profiles row) (turn_after (profile_at profiles row) (turn_at turns row))

-- what holds of the first row of a date
record IsFirstOf (profiles : List Profile) (turns : List Turn) (row date : ℕ) : Type 0 where
  pub dated : IsDated profiles turns row date
  pub schedule : IsSchedule (profile_at profiles row)
  pub later : (next : ℕ) → date_after profiles turns row ≡ Some next → (date < next) × (next ≤ date + 2 * 10 ^ 18)

first_of : (hosts links date : ℕ) (profiles : List Profile) (turns : List Turn) (row : ℕ) (rest : List ℕ) → AreProfiles hosts links profiles → rows_due date profiles turns ≡ row ∷ rest → IsFirstOf profiles turns row date
first_of hosts links date profiles turns row rest are e =
    let there = first_there 0 date row (dates_of profiles turns) rest e in
    let z : row ≡ row - 0 = omega arith in
    let dated = row_dated profiles turns row date (ap (λ (k : ℕ). get_or (dates_of profiles turns) k None) z ∙ there.there) in
    let schedule = (are row no_profile dated.within).schedule in
    record {
      dated = dated;
      schedule = schedule;
      later = λ next. entries_rise (profile_at profiles row) (turn_at turns row) date next schedule dated.date_is;
    }

stepped_dates : (profiles : List Profile) (turns : List Turn) (row : ℕ) → dates_of profiles (turns_after_row profiles row turns) ≡ set (dates_of profiles turns) row (date_after profiles turns row)
stepped_dates profiles turns row = dates_set profiles turns row (turn_after (profile_at profiles row) (turn_at turns row))

pub rows_are_left : RowsAreLeft
rows_are_left hosts links date profiles turns row rest are e =
    let first = first_of hosts links date profiles turns row rest are e in
    let other : date_after profiles turns row ≢ Some date = λ again. absurd (omega (arith, (first.later date again).0)) in
    let z : row ≡ row - 0 = omega arith in
    ap (rows_due_from 0 date) (stepped_dates profiles turns row)
    ∙ ap (λ (k : ℕ). rows_due_from 0 date (set (dates_of profiles turns) k (date_after profiles turns row))) z
    ∙ rest_there 0 date row (dates_of profiles turns) rest (date_after profiles turns row) other e

pub none_is_before : NoneIsBefore
none_is_before date profiles turns before = none_there 0 date (dates_of profiles turns) none
  where
    none : (row : ℕ) → get_or (dates_of profiles turns) row None ≢ Some date
    none row there =
        let to = earliest_to (dates_of profiles turns) row date there in
        let less : date < to.first = subst (λ (o : Option ℕ). IfSome o (λ next. date < next)) to.is before in
        absurd (omega (arith, to.to, less))

pub ahead_at_first : AheadAtFirst
ahead_at_first hosts links profiles are row next there =
    let dated = row_dated profiles (first_turns profiles) row next there in
    let turn : turn_at (first_turns profiles) row ≡ first_turn = get_or-replicate (length profiles) row first_turn first_turn dated.within in
    let left = date_left (profile_at profiles row) first_turn next (sym (ap (next_entry_date (profile_at profiles row)) turn) ∙ dated.date_is) in
    let small = date_small (profile_at profiles row) 0 (are row no_profile dated.within).schedule left.within in
    record { from = omega arith; to = omega (arith, left.date_is, small) }

pub next_is_near : NextIsNear
next_is_near date profiles turns ahead = by (earliest (dates_of profiles turns)) refl
  where
    by : (o : Option ℕ) → earliest (dates_of profiles turns) ≡ o → IfSome o (IsNear date)
    by None e = tt
    by (Some next) e =
        let held = earliest_held (dates_of profiles turns) next e in
        ahead held.row next held.there

pub ahead_moves : AheadMoves
ahead_moves date to profiles turns ahead from up row next there =
    let near = ahead row next there in
    let first = earliest_to (dates_of profiles turns) row next there in
    let low : to ≤ first.first = subst (λ (o : Option ℕ). IfSome o (λ next. to ≤ next)) first.is up in
    record { from = omega (arith, low, first.to); to = omega (arith, near.to, from) }

pub ahead_steps : AheadSteps
ahead_steps hosts links date profiles turns row rest are e ahead other next there =
    elim (eqb_tells other row) [ inl yes' ↦ here yes'.1 | inr no' ↦ ahead other next (sym (get_or-set_other (dates_of profiles turns) row other after None no'.1) ∙ changed) ]
  where
    after : Option ℕ
    after = date_after profiles turns row

    first : IsFirstOf profiles turns row date
    first = first_of hosts links date profiles turns row rest are e

    changed : get_or (set (dates_of profiles turns) row after) other None ≡ Some next
    changed = ap (λ (dates : List (Option ℕ)). get_or dates other None) (sym (stepped_dates profiles turns row)) ∙ there

    set_here : (xs : List (Option ℕ)) (i : ℕ) (a : ℕ) → get_or (set xs i after) i None ≡ Some a → after ≡ Some a
    set_here [] i a none = absurd (cc none)
    set_here (x ∷ xs) zero a is = is
    set_here (x ∷ xs) (suc i) a is = set_here xs i a is

    here : other ≡ row → IsNear date next
    here same =
        let later = first.later next (set_here (dates_of profiles turns) row next (ap (λ (k : ℕ). get_or (set (dates_of profiles turns) row after) k None) (sym same) ∙ changed)) in
        record { from = omega (arith, later.0); to = later.1 }
