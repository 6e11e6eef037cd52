-- The list of all faults of a tree, in rising places, and at one place in rising kinds.
use Rattle.std.specs.Prelude.{ℕ, ◌+◌, not, nat_lt, List, [], ◌++◌, Option, length, map}
use Rattle.std.specs.Option.{option_map_or}
use Rattle.sg_toml_tree.specs.Names.{Known}
use Rattle.sg_toml_rules.specs.Rules.{key_kinds}
use Rattle.sg_toml_keys.specs.Tables.{heading, keys_of}
use Rattle.sg_toml_keys.specs.declared.tables.Key.{Key}
use Rattle.sg_toml_keys.specs.declared.tables.Table.{Table}
use Rattle.sg_toml_keys.specs.declared.tables.Table.TheVariants.{Host, Router}
use Rattle.sg_toml_tree.specs.Along.{along}
use Rattle.sg_toml_tree.specs.Faults.{at_place, kind_if, of_type}
use Rattle.sg_toml_tree.specs.Tree.{has_only, list_of, rows_at}
use Rattle.sg_toml_tree.specs.declared.fault.Fault.{Fault}
use Rattle.sg_toml_tree.specs.declared.fault.Kind.{Kind}
use Rattle.sg_toml_tree.specs.declared.fault.Kind.TheVariants.{Unknown, Limit}
use Rattle.toml.specs.Data.{Data, Members, get_member, as_array, as_table}

-- a row as a whole, and then its keys; the row has this number in its space of names
unfoldable pub row_faults : Known → List (Key (List ℕ)) → ℕ → ℕ → ℕ → Data → List Fault
row_faults names keys number t r row =
    at_place t r 0 (of_type (λ given. kind_if (not (has_only (map (λ k. k.name) keys) given)) Unknown) (as_table row))
    ++ along (λ i key. at_place t r (i + 1) (key_kinds names number row key)) 0 keys

-- how many rows of the same space of names stand before the table
abbrev pub rows_before : Known → Table → ℕ
rows_before names Host = names.zones
rows_before names Router = names.zones + names.hosts
rows_before names _ = 0

-- a table as a whole
abbrev pub table_kinds : Table → Option Data → List Kind
table_kinds table found = option_map_or (λ d. of_type (λ items. kind_if (nat_lt (heading table).limit (length (list_of items))) Limit) (as_array d)) found []

-- a table and its rows
unfoldable pub table_faults : Known → Members → ℕ → Table → List Fault
table_faults names tree t table =
    at_place t 0 0 (table_kinds table (get_member (heading table).name tree))
    ++ along (λ i row. row_faults names (keys_of table) (rows_before names table + i) t (i + 1) row) 0 (rows_at (heading table).name tree)

-- all faults of a tree that may have these tables, which are numbered in their order
unfoldable pub faults_of : Known → List Table → Members → List Fault
faults_of names tables tree =
    at_place 0 0 0 (kind_if (not (has_only (map (λ table. (heading table).name) tables) tree)) Unknown)
    ++ along (λ i table. table_faults names tree (i + 1) table) 0 tables
