-- Which entries of profiles come, and when. Dates and gaps are in nanoseconds.
use Rattle.std.specs.Prelude.{◌≡◌, ℕ, ◌+◌, ◌-◌, ◌*◌, ◌==◌, ◌≤◌, ◌<◌, ◌^◌, Bool, false, min, Option, None, Some, IfSome, option_map, if◌then◌else◌, List, [], ◌∷◌, ◌++◌, length, map, replicate, slice_get, slice_index, slice_index_or, slice_set, zip}
use Rattle.std.specs.List.{All}
use Rattle.std.specs.List.Sorted.{IsStrictlyIncreasing}
use Rattle.std.specs.Option.{option_map_or}
use Rattle.sg_base.specs.declared.ids.LinkId.{LinkId}
use Rattle.sg_base.specs.declared.ids.PointId.{PointId}
use Rattle.sg_platform_rows.specs.Platform.{Platform}
use Rattle.sg_platform_rows.specs.declared.rows.Profiled.{Profiled}
use Rattle.sg_platform_rows.specs.declared.rows.Profiled.TheVariants.{Host, Link}
use Rattle.sg_platform_rows.specs.declared.rows.ProfileRow.{ProfileRow}
use Rattle.sg_platform_rows.specs.declared.rows.StateProfileRow.{StateProfileRow}
use Rattle.sg_profile.specs.declared.entry.Entry.{Entry}
use Rattle.sg_profile.specs.declared.entry.Entry.TheVariants.{Speed, Bandwidth, HostOn, LinkOn}
use Rattle.sg_profile.specs.declared.profile.Profile.{Profile}
use Rattle.sg_profile.specs.declared.turn.Turn.{Turn}

-- the entry that changes a host or a link, each in its own way, to a value
abbrev pub entry_by : {A : Type 0} → (PointId → A → Entry) → (LinkId → A → Entry) → Profiled → A → Entry
entry_by of_host of_link (Host host) value = of_host host value
entry_by of_host of_link (Link link) value = of_link link value

-- a profile of speeds or bandwidths, as the simulation uses it
abbrev pub profile_of : ProfileRow → Profile
profile_of r = record { dates = r.dates; entries = map (entry_by Speed Bandwidth r.of) r.values; gap = r.gap }

-- a profile of on and off states, as the simulation uses it
abbrev pub state_profile_of : StateProfileRow → Profile
state_profile_of r = record { dates = r.dates; entries = map (entry_by HostOn LinkOn r.of) r.states; gap = r.gap }

-- those of speeds and bandwidths, and after them those of states
abbrev pub profiles_in : Platform → List Profile
profiles_in platform = map profile_of platform.profiles ++ map state_profile_of platform.state_profiles

-- ---- what a platform promises
-- 1 to 1,024 dates that rise, and an entry for each
pub record IsSchedule (profile : Profile) : Type 0 where
  pub some : 1 ≤ length profile.dates
  pub few : length profile.dates ≤ 1024
  pub each : length profile.entries ≡ length profile.dates
  pub rising : IsStrictlyIncreasing profile.dates
  pub dates : All (λ date. date ≤ 10 ^ 18) profile.dates
  pub gap : IfSome profile.gap (λ gap. (1 ≤ gap) × (gap ≤ 10 ^ 18))

-- its host or link exists among so many, and its speed or bandwidth is up to 10^15 a second
abbrev pub IsEntry : ℕ → ℕ → Entry → Type 0
IsEntry hosts links (Speed host value) = (host.0 < hosts) × (value ≤ 10 ^ 15)
IsEntry hosts links (Bandwidth link value) = (link.0 < links) × (value ≤ 10 ^ 15)
IsEntry hosts links (HostOn host on) = host.0 < hosts
IsEntry hosts links (LinkOn link on) = link.0 < links

pub record IsProfile (hosts links : ℕ) (profile : Profile) : Type 0 where
  pub schedule : IsSchedule profile
  pub entries : All (IsEntry hosts links) profile.entries

abbrev pub AreProfiles : ℕ → ℕ → List Profile → Type 0
AreProfiles hosts links profiles = All (IsProfile hosts links) profiles

-- ---- one profile
-- the start of a profile: its first entry is next, and it has not repeated yet
abbrev pub first_turn : Turn
first_turn = record { number = 0; entry = 0 }

-- how long a turn takes, if another one follows
abbrev pub turn_time : Profile → ℕ
turn_time profile = option_map_or (λ gap. slice_index profile.dates (length profile.dates - 1) + gap) profile.gap 0

-- the date of the next entry; none: no entry remains
abbrev pub next_entry_date : Profile → Turn → Option ℕ
next_entry_date profile turn =
    option_map (λ date. turn.number * turn_time profile + date) (slice_get profile.dates turn.entry)

-- past the next entry; after the last one the next turn begins, if there is one
abbrev pub turn_after : Profile → Turn → Turn
turn_after profile turn =
    let next = record turn { entry = turn.entry + 1 } in
    if turn.entry + 1 == length profile.dates
    then option_map_or (λ gap. record { number = turn.number + 1; entry = 0 }) profile.gap next else next

-- ---- all of them, by rows from 0 on
-- The profiles, and how far each is.
pub record Timetable : Type 0 where
  pub profiles : List Profile
  pub turns : List Turn

-- every profile is at its start
abbrev pub first_turns : List Profile → List Turn
first_turns profiles = replicate (length profiles) first_turn

abbrev pub first_table : List Profile → Timetable
first_table profiles = record { profiles = profiles; turns = first_turns profiles }

-- the date of the next entry of each row
unfoldable pub dates_of : List Profile → List Turn → List (Option ℕ)
dates_of profiles turns = map (λ row. next_entry_date row.0 row.1) (zip profiles turns)

-- the earliest of these dates
unfoldable pub earliest : List (Option ℕ) → Option ℕ
earliest [] = None
earliest (None ∷ dates) = earliest dates
earliest (Some date ∷ dates) = Some (option_map_or (min date) (earliest dates) date)

-- the date of the next entry of all profiles; none: no entry remains
abbrev pub next_date : List Profile → List Turn → Option ℕ
next_date profiles turns = earliest (dates_of profiles turns)

-- from this row on, those that have this date
unfoldable pub rows_due_from : ℕ → ℕ → List (Option ℕ) → List ℕ
rows_due_from row date [] = []
rows_due_from row date (its ∷ dates) =
    let later = rows_due_from (row + 1) date dates in
    if option_map_or (λ other. other == date) its false then row ∷ later else later

-- the rows whose next entry is of this date, in order
abbrev pub rows_due : ℕ → List Profile → List Turn → List ℕ
rows_due date profiles turns = rows_due_from 0 date (dates_of profiles turns)

abbrev pub row_by : Option ℕ → List Profile → List Turn → ℕ
row_by None profiles turns = 0
row_by (Some date) profiles turns = slice_index (rows_due date profiles turns) 0

-- the row of the next entry: the first of those of its date
abbrev pub next_row : List Profile → List Turn → ℕ
next_row profiles turns = row_by (next_date profiles turns) profiles turns

-- the profile of a row; a row that isn't there has no entries
abbrev pub profile_at : List Profile → ℕ → Profile
profile_at profiles row = slice_index_or profiles row (record { dates = []; entries = []; gap = None })

-- how far the profile of a row is: its repetition, and its next entry
abbrev pub turn_at : List Turn → ℕ → Turn
turn_at turns row = slice_index_or turns row first_turn

-- the next entry of a row
abbrev pub entry_at : List Profile → List Turn → ℕ → Option Entry
entry_at profiles turns row =
    slice_get (profile_at profiles row).entries (turn_at turns row).entry

-- a row is past its next entry
abbrev pub turns_after_row : List Profile → ℕ → List Turn → List Turn
turns_after_row profiles row turns =
    slice_set turns row (turn_after (profile_at profiles row) (turn_at turns row))

-- The next entry is this one: of the earliest date, and there of the first row.
pub record IsNextEntry (table : Timetable) (date : ℕ) (entry : Entry) : Type 0 where
  pub date_is : next_date table.profiles table.turns ≡ Some date
  pub rest : List ℕ
  pub first : rows_due date table.profiles table.turns ≡ next_row table.profiles table.turns ∷ rest
  pub entry_is : entry_at table.profiles table.turns (next_row table.profiles table.turns) ≡ Some entry

-- the row of the next entry is past it
abbrev pub past_next : Timetable → Timetable
past_next table = record table {
  turns = turns_after_row table.profiles (next_row table.profiles table.turns) table.turns;
}
