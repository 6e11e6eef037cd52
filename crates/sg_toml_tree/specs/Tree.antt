-- The tree of a text, and what stands at its keys.
use Rattle.std.specs.Prelude.{ℕ, Bool, true, ◌&&◌, List, [], ◌∷◌, if◌then◌else◌, Option, None, option_and_then, unwrap_or}
use Rattle.std.specs.List.{list_any}
use Rattle.std.specs.Option.{option_map_or}
use Rattle.std.specs.Str.{bytes_eq, is_utf8}
use Rattle.toml.specs.Data.{Data, Items, no_items, item, Members, no_members, member, get, get_member, as_array, as_str}
use Rattle.toml.specs.Parse.{parse_document}

-- the tree of some bytes, by the grammar of TOML
unfoldable pub tree_of : List ℕ → Option Members
tree_of bytes = if is_utf8 bytes then parse_document bytes else None

-- the items of a TOML array, as a list
abbrev pub list_of : Items → List Data
list_of no_items = []
list_of (item d ds) = d ∷ list_of ds

-- the rows of a table: none if it is absent or no array
unfoldable pub rows_at : List ℕ → Members → List Data
rows_at name tree = option_map_or list_of (option_and_then as_array (get_member name tree)) []

-- the text at a key of a row
abbrev pub text_at : List ℕ → Data → Option (List ℕ)
text_at key row = option_and_then as_str (get key row)

-- the text at a key of a row, or the empty text if there is none
abbrev pub text_or_empty : List ℕ → Data → List ℕ
text_or_empty key row = unwrap_or (text_at key row) []

-- each member is called by one of these texts
abbrev pub has_only : List (List ℕ) → Members → Bool
has_only names no_members = true
has_only names (member name d ms) = list_any (λ n. bytes_eq name n) names && has_only names ms
