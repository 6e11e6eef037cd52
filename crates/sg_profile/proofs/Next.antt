-- The row whose slot comes first has the next entry.
use Rattle.std.proofs.Common.{◌≡◌, ◌≢◌, ℕ, ◌<◌, ◌≤◌, inl, inr, Option, None, Some, List, ◌∷◌, length, get_or, slice_get, slice_index, refl, sym, ap, subst, ◌∙◌, All, arith}
use Rattle.std.proofs.lemmas.List.{get_or_default}
use Rattle.sg_heap.specs.Agenda.{IsLeast, IsNoLater, Key, key_at}
use Rattle.sg_profile.specs.declared.turn.Turn.{Turn}
use Rattle.sg_profile.specs.declared.entry.Entry.{Entry}
use Rattle.sg_profile.specs.declared.profile.Profile.{Profile}
use Rattle.sg_profile.specs.Profiles.{IsNextEntry, IsSchedule, Timetable, next_entry_date, dates_of, entry_at, next_date, next_row, profile_at, row_by, rows_due, turn_at}
use Rattle.sg_profile.proofs.Cases.{no_profile}
use Rattle.sg_profile.specs.kept.Slots.{IsKept, key_by, table_of}
use Rattle.sg_profile.proofs.Dates.{IsDated, date_at, row_dated}
use Rattle.sg_profile.proofs.Earliest.{earliest_is, none_earliest}
use Rattle.sg_profile.proofs.Rising.{date_left}
use Rattle.sg_profile.proofs.RowsOfDate.{IsFirst, row_first}

-- The row has the next entry, at this date.
pub record HasNext (table : Timetable) (row date : ℕ) : Type 0 where
  pub within : row < length table.profiles
  pub dated : next_entry_date (profile_at table.profiles row) (turn_at table.turns row) ≡ Some date
  pub date_is : next_date table.profiles table.turns ≡ Some date
  pub row_is : next_row table.profiles table.turns ≡ row
  pub rest : List ℕ
  pub first : rows_due date table.profiles table.turns ≡ row ∷ rest

-- The date of a key, and its number.
record IsKeyOf (row : ℕ) (date : Option ℕ) (key : Key) : Type 0 where
  date_is : date ≡ Some key.date
  serial_is : key.serial ≡ row

key_of : (row : ℕ) (date : Option ℕ) (key : Key) → key_by row date ≡ Some key → IsKeyOf row date key
key_of row None key e = absurd (cc e)
key_of row (Some date) key e =
    let same : record { date = date; serial = row } ≡ key = cc e in
    record { date_is = ap (λ (k : Key). Some k.date) same; serial_is = sym (ap (λ (k : Key). k.serial) same) }

no_key : (row : ℕ) (date : Option ℕ) → key_by row date ≡ None → date ≡ None
no_key row None e = refl
no_key row (Some date) e = absurd (cc e)

no_later : (key : Key) (date row : ℕ) → IsNoLater key (record { date = date; serial = row }) → key.date ≤ date
no_later key date row (inl less) = omega (arith, less)
no_later key date row (inr (same, no_less)) = omega (arith, same)

in_order : (key : Key) (row : ℕ) → IsNoLater key (record { date = key.date; serial = row }) → key.serial ≤ row
in_order key row (inl less) = absurd (omega (arith, less))
in_order key row (inr (same, no_less)) = no_less

pub least_is_next : (table : Timetable) (keys : List (Option Key)) (row : ℕ) (key : Key) → IsKept table keys → IsLeast keys row key → HasNext table row key.date
least_is_next table keys row key kept least = record {
  within = dated.within;
  dated = dated.date_is;
  date_is = date_is;
  row_is = ap (λ (o : Option ℕ). row_by o table.profiles table.turns) date_is ∙ ap (λ (l : List ℕ). slice_index l 0) first_is;
  rest = told.rest;
  first = first_is;
}
  where
    dates : List (Option ℕ)
    dates = dates_of table.profiles table.turns

    there : IsKeyOf row (get_or dates row None) key
    there = key_of row (get_or dates row None) key (sym (kept.keys row) ∙ least.there)

    behind : (i date : ℕ) → get_or dates i None ≡ Some date → IsNoLater key (record { date = date; serial = i })
    behind i date has = least.least i (record { date = date; serial = i }) (kept.keys i ∙ ap (key_by i) has)

    none_before : (i : ℕ) → i < row → get_or dates i None ≢ Some key.date
    none_before i less has = absurd (omega (arith, less, in_order key i (behind i key.date has), there.serial_is))

    dated : IsDated table.profiles table.turns row key.date
    dated = row_dated table.profiles table.turns row key.date there.date_is

    date_is : next_date table.profiles table.turns ≡ Some key.date
    date_is = earliest_is dates row key.date there.date_is (λ i date has. no_later key date i (behind i date has))

    told : IsFirst 0 key.date row dates
    told = row_first 0 key.date row dates there.date_is none_before

    first_is : rows_due key.date table.profiles table.turns ≡ row ∷ told.rest
    first_is = told.is ∙ ap (λ (k : ℕ). k ∷ told.rest) (omega arith)

pub none_is_next : (table : Timetable) (keys : List (Option Key)) → IsKept table keys → ((slot : ℕ) → key_at keys slot ≡ None) → next_date table.profiles table.turns ≡ None
none_is_next table keys kept none =
    none_earliest (dates_of table.profiles table.turns)
    (λ row. no_key row (get_or (dates_of table.profiles table.turns) row None) (sym (kept.keys row) ∙ none row))

-- ---- as the rows are kept
-- the profile of a row
pub profile_is : (profiles : List Profile) (row : ℕ) (its : Profile) → row < length profiles → its ≡ get_or profiles row its → profile_at profiles row ≡ its
profile_is profiles row its within is = sym (is ∙ get_or_default profiles row its no_profile within)

pub schedule_of : (profiles : List Profile) (row : ℕ) (its : Profile) → All IsSchedule profiles → row < length profiles → its ≡ get_or profiles row its → IsSchedule its
schedule_of profiles row its all within is = subst IsSchedule (profile_is profiles row its within is) (all row no_profile within)

-- What is known of the row whose slot comes first.
pub record IsFoundAt (profiles : List Profile) (turns : List Turn) (row date : ℕ) (its : Profile) : Type 0 where
  pub next : HasNext (table_of profiles turns) row date
  pub turn_within : row < length turns
  pub profile_its : profile_at profiles row ≡ its
  pub entry_within : (turn_at turns row).entry < length its.entries

pub row_found : (profiles : List Profile) (turns : List Turn) (keys : List (Option Key)) (row : ℕ) (key : Key) (its : Profile) → IsKept (table_of profiles turns) keys → IsLeast keys row key → its ≡ get_or profiles row its
    → IsFoundAt profiles turns row key.date its
row_found profiles turns keys row key its kept least is =
    let next = least_is_next (table_of profiles turns) keys row key kept least in
    let profile = profile_is profiles row its next.within is in
    let schedule = schedule_of profiles row its kept.schedules next.within is in
    let left = date_left its (turn_at turns row) key.date (sym (ap (λ (p : Profile). next_entry_date p (turn_at turns row)) profile) ∙ next.dated) in
    record {
      next = next;
      turn_within = omega (arith, next.within, kept.turns);
      profile_its = profile;
      entry_within = omega (arith, left.within, schedule.each);
    }

pub next_entry : (profiles : List Profile) (turns : List Turn) (row date : ℕ) (its : Profile) (entry : Entry) → IsFoundAt profiles turns row date its → slice_get its.entries (turn_at turns row).entry ≡ Some entry
    → IsNextEntry (table_of profiles turns) date entry
next_entry profiles turns row date its entry found e =
    let next = found.next in
    record {
      date_is = next.date_is;
      rest = next.rest;
      first = next.first ∙ ap (λ (k : ℕ). k ∷ next.rest) (sym next.row_is);
      entry_is = ap (entry_at profiles turns) next.row_is ∙ ap (λ (p : Profile). slice_get p.entries (turn_at turns row).entry) found.profile_its ∙ e;
    }

-- the date that the row has by its turn stands among all dates
pub row_date : (profiles : List Profile) (turns : List Turn) (row : ℕ) (its : Profile) (date : Option ℕ) → length turns ≡ length profiles → row < length profiles → its ≡ get_or profiles row its
    → date ≡ next_entry_date its (turn_at turns row) → date ≡ get_or (dates_of profiles turns) row None
row_date profiles turns row its date same within is e =
    e
    ∙ ap (λ (p : Profile). next_entry_date p (turn_at turns row)) (sym (profile_is profiles row its within is))
    ∙ sym (date_at profiles turns row same within)
