-- The next date of each row.
use Rattle.std.proofs.Common.{◌≡◌, ℕ, zero, suc, ◌<◌, Option, None, Some, List, [], ◌∷◌, length, get_or, set, refl, ap, arith}
use Rattle.sg_profile.specs.declared.turn.Turn.{Turn}
use Rattle.sg_profile.specs.declared.profile.Profile.{Profile}
use Rattle.sg_profile.specs.Profiles.{next_entry_date, dates_of, profile_at, turn_at}

-- the date of a row changes with its turn
pub dates_set : (profiles : List Profile) (turns : List Turn) (row : ℕ) (turn : Turn) → dates_of profiles (set turns row turn) ≡ set (dates_of profiles turns) row (next_entry_date (profile_at profiles row) turn)
unfolding dates_of
dates_set [] turns row turn = refl
dates_set (p ∷ ps) [] row turn = refl
dates_set (p ∷ ps) (t ∷ ts) zero turn = refl
dates_set (p ∷ ps) (t ∷ ts) (suc row) turn = ap (λ (dates : List (Option ℕ)). next_entry_date p t ∷ dates) (dates_set ps ts row turn)

pub length_dates : (profiles : List Profile) (turns : List Turn) → length turns ≡ length profiles → length (dates_of profiles turns) ≡ length profiles
unfolding dates_of
length_dates [] turns same = refl
length_dates (p ∷ ps) [] same = same
length_dates (p ∷ ps) (t ∷ ts) same = ap suc (length_dates ps ts (omega (arith, same)))

-- a row has the date of its profile in its turn
pub date_at : (profiles : List Profile) (turns : List Turn) (row : ℕ) → length turns ≡ length profiles → row < length profiles → get_or (dates_of profiles turns) row None ≡ next_entry_date (profile_at profiles row) (turn_at turns row)
unfolding dates_of
date_at [] turns row same within = absurd (omega arith)
date_at (p ∷ ps) [] row same within = absurd (omega arith)
date_at (p ∷ ps) (t ∷ ts) zero same within = refl
date_at (p ∷ ps) (t ∷ ts) (suc row) same within = date_at ps ts row (omega (arith, same)) (omega (arith, within))

-- The row exists, and its profile has this date in its turn.
pub record IsDated (profiles : List Profile) (turns : List Turn) (row date : ℕ) : Type 0 where
  pub within : row < length profiles
  pub date_is : next_entry_date (profile_at profiles row) (turn_at turns row) ≡ Some date

pub row_dated : (profiles : List Profile) (turns : List Turn) (row date : ℕ) → get_or (dates_of profiles turns) row None ≡ Some date → IsDated profiles turns row date
unfolding dates_of
row_dated [] turns row date e = absurd (cc e)
row_dated (p ∷ ps) [] row date e = absurd (cc e)
row_dated (p ∷ ps) (t ∷ ts) zero date e = record { within = omega arith; date_is = e }
row_dated (p ∷ ps) (t ∷ ts) (suc row) date e =
    let there = row_dated ps ts row date e in
    record { within = omega (arith, there.within); date_is = there.date_is }
