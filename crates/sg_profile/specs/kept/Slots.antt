-- The slots in which the date of each row's next entry stands.
use Rattle.std.specs.Prelude.{◌≡◌, ℕ, ◌≤◌, Option, None, option_map, List, length, slice_index_or}
use Rattle.std.specs.List.{All}
use Rattle.sg_heap.specs.Agenda.{Key, key_at}
use Rattle.sg_profile.specs.Profiles.{IsSchedule, Timetable, dates_of}
use Rattle.sg_profile.specs.declared.profile.Profile.{Profile}
use Rattle.sg_profile.specs.declared.turn.Turn.{Turn}

abbrev pub table_of : List Profile → List Turn → Timetable
table_of profiles turns = record { profiles = profiles; turns = turns }

-- at one date the rows come in order
abbrev pub key_by : ℕ → Option ℕ → Option Key
key_by row date = option_map (λ date. record { date = date; serial = row }) date

abbrev pub AreKeys : List (Option ℕ) → List (Option Key) → Type 0
AreKeys dates keys = (row : ℕ) → key_at keys row ≡ key_by row (slice_index_or dates row None)

-- Each row has its turn, and its next date stands in its slot.
pub record IsKept (table : Timetable) (agenda : List (Option Key)) : Type 0 where
  pub few : length table.profiles ≤ 8192
  pub schedules : All IsSchedule table.profiles
  pub turns : length table.turns ≡ length table.profiles
  pub slots : length agenda ≡ length table.profiles
  pub keys : AreKeys (dates_of table.profiles table.turns) agenda
