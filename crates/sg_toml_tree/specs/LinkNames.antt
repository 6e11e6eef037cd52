-- The names of links.
use Rattle.std.specs.Prelude.{ℕ, Bool, List, [], ◌∷◌, if◌then◌else◌, codes}
use Rattle.std.specs.Option.{option_map_or}
use Rattle.std.specs.Str.{bytes_eq}
use Rattle.sg_toml_tree.specs.Spelling.{split_names, taken_by}
use Rattle.sg_toml_tree.specs.Tree.{text_at, text_or_empty}
use Rattle.toml.specs.Data.{Data}

-- the row is that of a SPLITDUPLEX link
abbrev pub is_split : Data → Bool
is_split row = bytes_eq (text_or_empty (codes "sharing_policy") row) (codes "SPLITDUPLEX")

-- the names by which lists name the links of a row
abbrev pub link_names : Data → List (List ℕ)
link_names row = option_map_or (λ id. if is_split row then split_names id else id ∷ []) (text_at (codes "id") row) []

-- the names that a row takes in the space of links
abbrev pub taken_names : Data → List (List ℕ)
taken_names row = option_map_or (taken_by (is_split row)) (text_at (codes "id") row) []
