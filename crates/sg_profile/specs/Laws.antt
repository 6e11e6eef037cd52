-- Laws of profiles: how dates and rows follow one another.
use Rattle.std.specs.Prelude.{◌≡◌, ℕ, zero, suc, ◌+◌, ◌-◌, ◌*◌, ◌^◌, ◌<◌, ◌≤◌, None, Some, IfSome, List, [], ◌∷◌, length, slice_get, slice_index}
use Rattle.sg_platform_rows.specs.Platform.{IsPlatform, Platform, counts_of}
use Rattle.sg_profile.specs.declared.entry.Entry.{Entry}
use Rattle.sg_profile.specs.declared.profile.Profile.{Profile}
use Rattle.sg_profile.specs.declared.turn.Turn.{Turn}
use Rattle.sg_profile.specs.Ahead.{IsAhead, IsNear}
use Rattle.sg_profile.specs.Profiles.{AreProfiles, IsEntry, IsSchedule, next_entry_date, entry_at, first_turn, first_turns, next_date, profiles_in, rows_due, turns_after_row, turn_after}

-- The profiles of a platform are of its hosts and links.
abbrev pub PlatformsPromise : Type 0
PlatformsPromise =
    (platform : Platform) → IsPlatform platform
    → AreProfiles (counts_of platform).hosts (counts_of platform).links (profiles_in platform)

-- Each entry that comes is of one of them.
abbrev pub EntriesExist : Type 0
EntriesExist =
    (hosts links : ℕ) (profiles : List Profile) (turns : List Turn) (row : ℕ) (entry : Entry) → AreProfiles hosts links profiles
    → entry_at profiles turns row ≡ Some entry → IsEntry hosts links entry

-- how far a profile is once so many of its entries have come
unfoldable pub turn_past : Profile → ℕ → Turn
turn_past profile zero = first_turn
turn_past profile (suc n) = turn_after profile (turn_past profile n)

-- Entry i of turn k comes at its own date, after k times the last date and the gap.
abbrev pub LoopsComeAgain : Type 0
LoopsComeAgain =
    (profile : Profile) (gap k i : ℕ) → profile.gap ≡ Some gap → i < length profile.dates
    → next_entry_date profile (turn_past profile (k * length profile.dates + i))
    ≡ Some (k * (slice_index profile.dates (length profile.dates - 1) + gap) + slice_index profile.dates i)

-- Without a gap the entries come once, each at its own date.
abbrev pub OthersComeOnce : Type 0
OthersComeOnce =
    (profile : Profile) (i : ℕ) → profile.gap ≡ None
    → next_entry_date profile (turn_past profile i) ≡ slice_get profile.dates i

-- The next entry of a profile is later, by 2 × 10^18 ns at most.
abbrev pub EntriesRise : Type 0
EntriesRise =
    (profile : Profile) (turn : Turn) (a b : ℕ) → IsSchedule profile
    → next_entry_date profile turn ≡ Some a → next_entry_date profile (turn_after profile turn) ≡ Some b
    → (a < b) × (b ≤ a + 2 * 10 ^ 18)

-- Once the first row of a date is past its entry, the others are left.
abbrev pub RowsAreLeft : Type 0
RowsAreLeft =
    (hosts links date : ℕ) (profiles : List Profile) (turns : List Turn) (row : ℕ) (rest : List ℕ) → AreProfiles hosts links profiles
    → rows_due date profiles turns ≡ row ∷ rest → rows_due date profiles (turns_after_row profiles row turns) ≡ rest

-- No row has an entry before the next one.
abbrev pub NoneIsBefore : Type 0
NoneIsBefore =
    (date : ℕ) (profiles : List Profile) (turns : List Turn)
    → IfSome (next_date profiles turns) (λ next. date < next) → rows_due date profiles turns ≡ []

-- At first all entries are ahead of the date 0.
abbrev pub AheadAtFirst : Type 0
AheadAtFirst =
    (hosts links : ℕ) (profiles : List Profile) → AreProfiles hosts links profiles
    → IsAhead 0 profiles (first_turns profiles)

-- The next entry is.
abbrev pub NextIsNear : Type 0
NextIsNear =
    (date : ℕ) (profiles : List Profile) (turns : List Turn) → IsAhead date profiles turns
    → IfSome (next_date profiles turns) (IsNear date)

-- They stay so as the date moves, no further than to the next entry.
abbrev pub AheadMoves : Type 0
AheadMoves =
    (date to : ℕ) (profiles : List Profile) (turns : List Turn) → IsAhead date profiles turns
    → date ≤ to → IfSome (next_date profiles turns) (λ next. to ≤ next) → IsAhead to profiles turns

-- They stay so as the first row of a date steps past its entry.
abbrev pub AheadSteps : Type 0
AheadSteps =
    (hosts links date : ℕ) (profiles : List Profile) (turns : List Turn) (row : ℕ) (rest : List ℕ) → AreProfiles hosts links profiles
    → rows_due date profiles turns ≡ row ∷ rest → IsAhead date profiles turns
    → IsAhead date profiles (turns_after_row profiles row turns)
