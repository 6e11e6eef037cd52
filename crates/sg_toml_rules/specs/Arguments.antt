-- The arguments that go with what an actor does.
use Rattle.std.specs.Prelude.{is_some, ℕ, ◌==◌, Bool, false, not, ◌&&◌, ◌||◌, nat_le, List, [], ◌∷◌, length, map, codes, unwrap_or}
use Rattle.std.specs.List.{list_all, list_any}
use Rattle.std.specs.Option.{option_map_or}
use Rattle.std.specs.Str.{bytes_eq}
use Rattle.sg_toml_tree.specs.Workers.{has_function}
use Rattle.sg_toml_keys.specs.Units.{quantity_value}
use Rattle.sg_toml_keys.specs.declared.units.Quantity.TheVariants.{Amount}
use Rattle.sg_toml_tree.specs.Faults.{kind_if}
use Rattle.sg_toml_tree.specs.NameSpaces.{Finds}
use Rattle.sg_toml_tree.specs.declared.fault.Kind.{Kind}
use Rattle.sg_toml_tree.specs.declared.fault.Kind.TheVariants.{Arguments}
use Rattle.toml.specs.Data.{Data, as_str}

-- the text of an item
abbrev pub text_of : Data → List ℕ
text_of d = unwrap_or (as_str d) []

-- a text stands twice
abbrev pub has_repeat : List (List ℕ) → Bool
has_repeat [] = false
has_repeat (text ∷ texts) = list_any (bytes_eq text) texts || has_repeat texts

-- the names of workers: some, and none twice
unfoldable pub are_workers : Finds → List (List ℕ) → Bool
are_workers workers names = (not (length names == 0) && list_all (λ name. is_some (workers name)) names) && not (has_repeat names)

-- what a master is given: the count of its tasks, at most 10^9, the flops and the bytes of each, and its workers
abbrev pub are_for_master : Finds → List (List ℕ) → Bool
are_for_master workers (tasks ∷ (flops ∷ (bytes ∷ names))) =
    ((option_map_or (λ n. nat_le n 1000000000) (quantity_value Amount tasks) false && is_some (quantity_value Amount flops)) && is_some (quantity_value Amount bytes)) && are_workers workers names
are_for_master workers items = false

-- an actor of another function is given nothing
abbrev pub takes_none : Data → Bool
takes_none row = has_function (codes "replay") row || has_function (codes "worker") row

-- the arguments of an actor, if its function is known
unfoldable pub argument_kinds : Finds → Data → List Data → List Kind
argument_kinds workers row items =
    kind_if ((takes_none row && not (length items == 0)) || (has_function (codes "master") row && not (are_for_master workers (map text_of items)))) Arguments
