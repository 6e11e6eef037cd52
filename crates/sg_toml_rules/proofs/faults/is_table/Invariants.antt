use Rattle.std.proofs.Common.{◌≡◌, drop, map}
use Rattle.std.specs.List.{list_any}
use Rattle.std.specs.Str.{bytes_eq}
use Rattle.sg_toml_keys.specs.Tables.{heading}
use Rattle.sg_toml_rules.proofs.faults.is_table.Given as goal

abbrev pub invariant-loop-table : goal.invariant-loop-table
invariant-loop-table l =
    list_any (λ k. bytes_eq l.name k) (map (λ table. (heading table).name) (drop l.table-index l.tables)) ≡ list_any (λ k. bytes_eq l.name k) (map (λ table. (heading table).name) l.tables)
