-- Profiles: when the speed of a host, the bandwidth of a link or the state of one of them changes, and what it is from
-- then on.
use Rattle.std.specs.Prelude.{ℕ, ◌==◌, Bool, true, false, not, ◌&&◌, nat_lt, List, [], ◌∷◌, ◌++◌, if◌then◌else◌, Option, Some, None, is_some, length, map, option_and_then, codes}
use Rattle.std.specs.Option.{option_map_or}
use Rattle.std.specs.Str.{bytes_eq}
use Rattle.sg_toml_rules.specs.Arguments.{text_of}
use Rattle.sg_toml_keys.specs.Units.{quantity_value}
use Rattle.sg_toml_keys.specs.declared.units.Quantity.{Quantity}
use Rattle.sg_toml_keys.specs.declared.units.Quantity.TheVariants.{Time, Speed, Bandwidth}
use Rattle.sg_toml_tree.specs.Faults.{kind_if}
use Rattle.sg_toml_tree.specs.Tree.{list_of}
use Rattle.sg_toml_tree.specs.declared.fault.Kind.{Kind}
use Rattle.sg_toml_tree.specs.declared.fault.Kind.TheVariants.{BadValue, Limit}
use Rattle.toml.specs.Data.{Data, get, as_array}

-- what the values of a row are: speeds if it names a host
abbrev pub quantity_of : Data → Quantity
quantity_of row = if is_some (get (codes "host") row) then Speed else Bandwidth

-- the items of the array at a key
abbrev pub items_at : List ℕ → Data → List Data
items_at key row = option_map_or list_of (option_and_then as_array (get key row)) []

-- the amount that an item gives
abbrev pub amount_in : Quantity → Data → Option ℕ
amount_in quantity item = quantity_value quantity (text_of item)

-- the state that an item gives: whether it is on
abbrev pub state_in : Data → Option Bool
state_in item = if bytes_eq (text_of item) (codes "on") then Some true
    else if bytes_eq (text_of item) (codes "off") then Some false else None

-- one date or more, and each is later than the one before
abbrev pub are_rising : List (Option ℕ) → Bool
are_rising [] = false
are_rising (date ∷ []) = is_some date
are_rising (date ∷ (next ∷ dates)) = option_map_or (λ d. option_map_or (nat_lt d) next false) date false && are_rising (next ∷ dates)

-- the dates: up to 1,024 times that rise
unfoldable pub dates_kinds : List Data → List Kind
dates_kinds items = kind_if (not (are_rising (map (amount_in Time) items))) BadValue ++ kind_if (nat_lt 1024 (length items)) Limit

-- one item for each date, and each fit
unfoldable pub each_date_kinds : Data → List Data → Bool → List Kind
each_date_kinds row items fit =
    kind_if (not (length items == length (items_at (codes "dates") row) && fit)) BadValue ++ kind_if (nat_lt 1024 (length items)) Limit
