-- The ordered pairs that routes give.
use Rattle.std.specs.Prelude.{Bool, true, false, ℕ, List, [], ◌∷◌, if◌then◌else◌, Option, Some, option_and_then, unwrap_or, codes}
use Rattle.std.specs.Option.{option_map_or}
use Rattle.sg_toml_tree.specs.NameSpaces.{Finds, Pair}
use Rattle.sg_toml_tree.specs.Tree.{text_at}
use Rattle.toml.specs.Data.{Data, get, as_bool}

-- the truth value at a key of a row: yes if it is absent, no if it is no truth value
abbrev pub truth_at : List ℕ → Data → Bool
truth_at key row = option_map_or (λ d. unwrap_or (as_bool d) false) (get key row) true

-- the ordered pair of a route's ends, and also reversed if it is symmetrical; none if an end is unknown
abbrev pub pairs_between : Option ℕ → Option ℕ → Bool → List Pair
pairs_between (Some a) (Some b) both = (a, b) ∷ (if both then (b, a) ∷ [] else [])
pairs_between a b both = []

-- the pairs that a route gives: its own, and if it is symmetrical that of the reverse route
unfoldable pub pairs_of : Finds → Data → List Pair
pairs_of points row =
    pairs_between (option_and_then points (text_at (codes "src") row)) (option_and_then points (text_at (codes "dst") row)) (truth_at (codes "symmetrical") row)
