use Rattle.std.proofs.Common.{◌≡◌, IfOk, sym, subst}
use Rattle.toml.specs.View.{table_view}
use Rattle.sg_toml_tree.specs.kept.NamesView.{names_view}
use Rattle.sg_toml_rules.proofs.TableLemmas.{table_rest}
use Rattle.sg_toml_rules.proofs.faults.table_fault.Goals as goal

pub returns-in-None : goal.returns-in-None
returns-in-None c =
    let seen = rw c.text.ensures at c.rows_at-rows.ensures in
    let whole = rw c.before-in-None.ensures.value at c.rows_fault.ensures in
    subst (λ found. IfOk c.rows_fault.result (λ fault. fault ≡ found)) (table_rest (names_view c.args.names.now) (table_view c.args.tree.now) c.args.number c.args.table c.rows_at-rows.result.now seen (sym c.in-None.ensures)) whole
