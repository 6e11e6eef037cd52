use Rattle.std.proofs.Common.{◌≡◌, drop}
use Rattle.toml.specs.View.{view}
use Rattle.sg_toml_tree.specs.kept.NamesView.{names_view}
use Rattle.sg_toml_keys.specs.Tables.{keys_of}
use Rattle.sg_toml_tree.specs.Along.{first, along}
use Rattle.sg_toml_rules.proofs.FaultParts.{row_faults_at}
use Rattle.sg_toml_rules.proofs.faults.rows_fault.Given as goal

abbrev pub invariant-loop-i : goal.invariant-loop-i
invariant-loop-i l =
    first (along (λ i row. row_faults_at (names_view l.names) (keys_of l.kind) l.before l.table i (view row)) l.i (drop l.i l.rows))
    ≡ first (along (λ i row. row_faults_at (names_view l.names) (keys_of l.kind) l.before l.table i (view row)) 0 l.rows)
