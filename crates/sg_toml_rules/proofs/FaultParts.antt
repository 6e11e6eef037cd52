-- The parts of a list of faults.
use Rattle.std.proofs.Common.{ℕ, ◌+◌, not, List, [], ◌∷◌, map, if◌then◌else◌, Option}
use Rattle.std.specs.Option.{option_map_or}
use Rattle.sg_toml_tree.specs.Names.{Known}
use Rattle.sg_toml_rules.specs.Faults.{row_faults}
use Rattle.sg_toml_rules.specs.Rules.{default_kinds, is_required, key_kinds, value_kinds}
use Rattle.sg_toml_keys.specs.Tables.{heading}
use Rattle.sg_toml_keys.specs.declared.tables.Key.{Key}
use Rattle.sg_toml_keys.specs.declared.tables.Table.{Table}
use Rattle.sg_toml_tree.specs.Faults.{at_place, kind_if, of_type}
use Rattle.sg_toml_tree.specs.Tree.{has_only}
use Rattle.sg_toml_tree.specs.declared.fault.Fault.{Fault}
use Rattle.sg_toml_tree.specs.declared.fault.Kind.{Kind}
use Rattle.sg_toml_tree.specs.declared.fault.Kind.TheVariants.{MissingKey, Unknown}
use Rattle.toml.specs.Data.{Data, Members, as_table}

abbrev pub row_kinds : List (Key (List ℕ)) → Data → List Kind
row_kinds keys row = of_type (λ members. kind_if (not (has_only (map (λ k. k.name) keys) members)) Unknown) (as_table row)

-- what is wrong at a key, by what the row has there
abbrev pub kinds_at : Known → ℕ → Data → Key (List ℕ) → Option Data → List Kind
kinds_at names number row key found =
    option_map_or (value_kinds names number row key.rule) found
    (if is_required names row key.need then MissingKey ∷ [] else default_kinds names row key.rule)

abbrev pub key_faults : Known → ℕ → ℕ → ℕ → Data → ℕ → Key (List ℕ) → List Fault
key_faults names number t r row i key = at_place t r (i + 1) (key_kinds names number row key)

abbrev pub row_faults_at : Known → List (Key (List ℕ)) → ℕ → ℕ → ℕ → Data → List Fault
row_faults_at names keys before t i row = row_faults names keys (before + i) t (i + 1) row

abbrev pub top_kinds : List Table → Members → List Kind
top_kinds tables tree = kind_if (not (has_only (map (λ table. (heading table).name) tables) tree)) Unknown
