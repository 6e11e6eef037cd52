-- What hosts draw, in milliwatts.
use Rattle.std.specs.Prelude.{ℕ, nat_le, List, [], ◌∷◌, if◌then◌else◌, Option, Some, None, option_and_then}
use Rattle.sg_toml_rules.specs.declared.power.Powers.{Powers}
use Rattle.sg_toml_keys.specs.Units.{whole_value}
use Rattle.toml.specs.Data.{Data, as_integer}

-- the power in milliwatts that a value of the tree gives: a whole number up to 10^9
abbrev pub milliwatts_in : Data → Option ℕ
milliwatts_in item = option_and_then (whole_value 0 1000000000) (as_integer item)

-- the powers of a host: with all of its capacity it draws no less than with nearly none
abbrev pub powers_of : Option ℕ → Option ℕ → Option ℕ → Option Powers
powers_of (Some idle) (Some epsilon) (Some all) =
    if nat_le epsilon all then Some (record { idle = idle; epsilon = epsilon; all = all }) else None
powers_of idle epsilon all = None

-- idle, with nearly none of the capacity, and with all of it
abbrev pub powers_in : List Data → Option Powers
powers_in (idle ∷ (epsilon ∷ (all ∷ []))) = powers_of (milliwatts_in idle) (milliwatts_in epsilon) (milliwatts_in all)
powers_in items = None
