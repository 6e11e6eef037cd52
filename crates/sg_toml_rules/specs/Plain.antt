-- Rows whose keys break no rule.
use Rattle.std.specs.Prelude.{◌≡◌, ◌≤◌, ◌+◌, ℕ, Bool, List, Some, None, is_some, option_and_then, codes}
use Rattle.sg_toml_tree.specs.Names.{Known}
use Rattle.sg_toml_tree.specs.Pairs.{truth_at}
use Rattle.sg_toml_rules.specs.Rules.{key_kinds, link_list_kinds, list_kinds}
use Rattle.sg_toml_keys.specs.declared.tables.Key.{Key}
use Rattle.sg_toml_tree.specs.Along.{along, first}
use Rattle.sg_toml_tree.specs.Faults.{at_place, of_type}
use Rattle.sg_toml_tree.specs.Tree.{list_of, text_at}
use Rattle.toml.specs.Data.{Data, as_array, as_bool, as_str, get}

-- no key of the row breaks a rule
pub record KeepsRules (names : Known) (keys : List (Key (List ℕ))) (number : ℕ) (row : Data) : Type 0 where
  pub none : (t r : ℕ) → first (along (λ i key. at_place t r (i + 1) (key_kinds names number row key)) 0 keys) ≡ None

-- the key has the name of the point of this number
pub record IsPointAt (names : Known) (key : List ℕ) (row : Data) (point : ℕ) : Type 0 where
  pub found : option_and_then names.points (text_at key row) ≡ Some point
  pub above : names.zones ≤ point

-- the row of a route says, by a truth value or by none, whether it serves the reverse direction too
pub record Serves (row : Data) (both : Bool) : Type 0 where
  pub said : truth_at (codes "symmetrical") row ≡ both
  pub typed : (d : Data) → get (codes "symmetrical") row ≡ Some d → as_bool d ≡ Some both

-- the row has the names of 1 to 64 links
pub record Links (names : Known) (row : Data) : Type 0 where
  pub value : Data
  pub found : get (codes "links") row ≡ Some value
  pub none : first (of_type (λ items. list_kinds (λ d. is_some (as_str d)) (link_list_kinds names.links) (list_of items)) (as_array value)) ≡ None
