-- What the definitions say case by case.
use Rattle.std.proofs.Common.{ℕ, ◌+◌, ◌==◌, Bool, false, Option, None, List, [], ◌++◌}
use Rattle.std.specs.Option.{option_map_or}
use Rattle.std.specs.Prelude.{map, min}
use Rattle.sg_profile.specs.Profiles.{profile_of, state_profile_of}
use Rattle.sg_profile.specs.declared.profile.Profile.{Profile}
use Rattle.sg_profile.specs.declared.turn.Turn.{Turn}
use Rattle.sg_platform_rows.specs.declared.rows.ProfileRow.{ProfileRow}
use Rattle.sg_platform_rows.specs.declared.rows.StateProfileRow.{StateProfileRow}

abbrev pub profiles_of : List ProfileRow → List StateProfileRow → List Profile
profiles_of rows states = map profile_of rows ++ map state_profile_of states

-- after the last entry
abbrev pub turn_over : Option ℕ → Turn → Turn
turn_over gap turn = option_map_or (λ gap. record { number = turn.number + 1; entry = 0 }) gap (record turn { entry = turn.entry + 1 })

abbrev pub earlier_of : ℕ → Option ℕ → ℕ
earlier_of date other = option_map_or (min date) other date

abbrev pub is_at : ℕ → Option ℕ → Bool
is_at date its = option_map_or (λ other. other == date) its false

abbrev pub no_profile : Profile
no_profile = record { dates = []; entries = []; gap = None }
