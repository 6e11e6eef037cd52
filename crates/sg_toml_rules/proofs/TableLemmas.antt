-- The first fault of a table.
use Rattle.std.proofs.Common.{◌≡◌, ℕ, ◌<◌, ◌≤◌, true, nat_lt, List, [], map, length, get_or, drop, Option, Some, None, option_and_then, ap, ◌∙◌, sym, inl, inr, arith}
use Rattle.std.proofs.lemmas.List.{drop_more, length-map}
use Rattle.toml.specs.Data.{Members, get_member, Data, Items, as_array}
use Rattle.toml.specs.View.{view}
use Rattle.toml.specs.declared.value.Value.{Value}
use Rattle.sg_toml_tree.specs.Tree.{rows_at, list_of}
use Rattle.sg_toml_tree.specs.Names.{Known}
use Rattle.sg_toml_tree.specs.Along.{first, along}
use Rattle.sg_toml_rules.proofs.FaultParts.{row_faults_at}
use Rattle.sg_toml_rules.specs.Faults.{table_kinds, table_faults, rows_before}
use Rattle.sg_toml_keys.specs.Tables.{heading, keys_of}
use Rattle.sg_toml_tree.specs.declared.fault.Fault.{Fault}
use Rattle.sg_toml_tree.specs.declared.fault.Kind.{Kind}
use Rattle.std.specs.Borrow.{Bor}
use Rattle.sg_toml_keys.specs.declared.tables.Key.{Key}
use Rattle.sg_toml_keys.specs.declared.tables.Table.{Table}
use Rattle.sg_toml_keys.specs.kept.Shown.{key_of}
use Rattle.sg_toml_keys.specs.declared.tables.Table.TheVariants.{Zone, Host, Router, Link, Route, ZoneRoute, Spoke, Network, Profile, StateProfile, Actor, Mutex, Semaphore}
use Rattle.sg_toml_tree.proofs.Along.{first_append_none, first_append_some, first_at_none, first_at_some, along_map}
use Rattle.std.proofs.lemmas.Bool.{cases_Bool}
use Rattle.std.proofs.lemmas.Bool.Decides.{nat_tests}
use Rattle.std.specs.Option.{option_map_or}
use Rattle.sg_toml_tree.specs.Faults.{kind_if, of_type}
use Rattle.sg_toml_tree.specs.declared.fault.Kind.TheVariants.{Limit}

pub few_rows : (table : Table) (o : Option Data) → first (table_kinds table o) ≡ None → length (option_map_or list_of (option_and_then as_array o) []) ≤ (heading table).limit
few_rows table None none = omega arith
few_rows table (Some d) none = few_items table (as_array d) none
  where
    few_items : (table : Table) (o : Option Items) → first (of_type (λ items. kind_if (nat_lt (heading table).limit (length (list_of items))) Limit) o) ≡ None → length (option_map_or list_of o []) ≤ (heading table).limit
    few_items table None none = omega arith
    few_items table (Some items) none =
        elim (cases_Bool (nat_lt (heading table).limit (length (list_of items)))) [
          | inl over ↦ let told : first (kind_if true Limit) ≡ None = rw over at none in cc
          | inr within ↦ grind (arith, nat_tests)
        ]

pub table_head : (names : Known) (tree : Members) (t : ℕ) (table : Table) (kind : Kind) → first (table_kinds table (get_member (heading table).name tree)) ≡ Some kind
    → first (table_faults names tree t table) ≡ Some (record { place = record { table = t; row = 0; key = 0 }; kind = kind })
unfolding table_faults
table_head names tree t table kind told = first_append_some _ _ _ (first_at_some _ _ _ _ kind told)

pub table_rest : (names : Known) (tree : Members) (t : ℕ) (table : Table) (rows : List Value) → map view rows ≡ rows_at (heading table).name tree → first (table_kinds table (get_member (heading table).name tree)) ≡ None
    → first (along (λ i row. row_faults_at names (keys_of table) (rows_before names table) t i (view row)) 0 rows) ≡ first (table_faults names tree t table)
unfolding table_faults
table_rest names tree t table rows seen none =
    let f = row_faults_at names (keys_of table) (rows_before names table) t in
    sym (ap first (along_map view f 0 rows)) ∙ ap (λ rs. first (along f 0 rs)) seen ∙ sym (first_append_none _ _ (first_at_none _ _ _ _ none))

limit_small : (table : Table) → (heading table).limit < 1048576
limit_small Zone = omega arith
limit_small Host = omega arith
limit_small Router = omega arith
limit_small Link = omega arith
limit_small Route = omega arith
limit_small ZoneRoute = omega arith
limit_small Spoke = omega arith
limit_small Network = omega arith
limit_small Profile = omega arith
limit_small StateProfile = omega arith
limit_small Actor = omega arith
limit_small Mutex = omega arith
limit_small Semaphore = omega arith

pub few_at : (tree : Members) (table : Table) (rows : List Value) → map view rows ≡ rows_at (heading table).name tree → first (table_kinds table (get_member (heading table).name tree)) ≡ None → length rows < 1048576
unfolding rows_at
few_at tree table rows seen none = omega (arith, limit_small table, few_rows table (get_member (heading table).name tree) none, ap length seen, length-map rows view)

keys_few : (table : Table) → length (keys_of table) < 100
keys_few Zone = omega arith
keys_few Host = omega arith
keys_few Router = omega arith
keys_few Link = omega arith
keys_few Route = omega arith
keys_few ZoneRoute = omega arith
keys_few Spoke = omega arith
keys_few Network = omega arith
keys_few Profile = omega arith
keys_few StateProfile = omega arith
keys_few Actor = omega arith
keys_few Mutex = omega arith
keys_few Semaphore = omega arith

pub few_keys : (table : Table) (rows : List (Key (Bor (List ℕ)))) → map key_of rows ≡ keys_of table → length rows < 100
few_keys table rows seen = omega (arith, keys_few table, ap length seen, length-map rows key_of)

-- the key at i gives the first fault
pub keys_here : (f : ℕ → Key (List ℕ) → List Fault) (keys : List (Key (Bor (List ℕ)))) (i : ℕ) (d : Key (Bor (List ℕ))) (fault : Fault) → i < length keys → first (f i (key_of (get_or keys i d))) ≡ Some fault
    → first (along f i (map key_of (drop i keys))) ≡ Some fault
keys_here f keys i d fault within told = rw (drop_more keys i d within) (first_append_some _ _ fault told)
