-- How names are spelled.
use Rattle.std.specs.Prelude.{ℕ, ◌==◌, Bool, not, ◌&&◌, ◌||◌, nat_le, List, [], ◌∷◌, ◌++◌, if◌then◌else◌, length, codes}
use Rattle.std.specs.Char.{is_ascii_alphanumeric}
use Rattle.std.specs.List.{list_all}

-- a name: 1 to 64 letters, digits, underscores, points and hyphens
abbrev pub is_name_byte : ℕ → Bool
is_name_byte byte = ((is_ascii_alphanumeric byte || byte == 95) || byte == 46) || byte == 45

-- whether a text is a name: 1 to 64 bytes, each one that names may have
unfoldable pub is_name : List ℕ → Bool
is_name text = (not (length text == 0) && nat_le (length text) 64) && list_all is_name_byte text

-- a SPLITDUPLEX link stands for one link in each direction
abbrev pub split_names : List ℕ → List (List ℕ)
split_names id = (id ++ codes "_UP") ∷ (id ++ codes "_DOWN") ∷ []

-- the names that the row of a link takes in the space of links
abbrev pub taken_by : Bool → List ℕ → List (List ℕ)
taken_by split id = id ∷ (if split then split_names id else [])
