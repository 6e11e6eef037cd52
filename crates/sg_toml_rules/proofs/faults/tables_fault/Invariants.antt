use Rattle.std.proofs.Common.{◌≡◌, ◌+◌, drop}
use Rattle.toml.specs.View.{table_view}
use Rattle.sg_toml_tree.specs.kept.NamesView.{names_view}
use Rattle.sg_toml_tree.specs.Along.{first, along}
use Rattle.sg_toml_rules.specs.Faults.{table_faults}
use Rattle.sg_toml_rules.proofs.faults.tables_fault.Given as goal

abbrev pub invariant-loop-i : goal.invariant-loop-i
invariant-loop-i l =
    first (along (λ i table. table_faults (names_view l.names) (table_view l.tree) (i + 1) table) l.i (drop l.i l.tables))
    ≡ first (along (λ i table. table_faults (names_view l.names) (table_view l.tree) (i + 1) table) 0 l.tables)
