use Rattle.std.proofs.Common.{◌+◌, ◌∙◌, sym}
use Rattle.sg_toml_rules.proofs.FaultParts.{key_faults}
use Rattle.sg_toml_rules.proofs.TableLemmas.{keys_here}
use Rattle.sg_toml_tree.proofs.Along.{first_at_some}
use Rattle.sg_toml_tree.specs.kept.NamesView.{names_view}
use Rattle.toml.specs.View.{view}
use Rattle.sg_toml_rules.proofs.faults.keys_fault.Goals as goal

pub returns-in-Some : goal.returns-in-Some
returns-in-Some c =
    let faults = key_faults (names_view c.args.names.now) c.args.number c.args.place.table c.args.place.row (view c.args.row.now) in
    let kinds = sym c.in_ok-kind.ensures ∙ c.in-Some.is in
    sym (keys_here faults c.args.keys.now c.loop-i.i _ _ c.loop-i-test.true (first_at_some c.args.place.table c.args.place.row (c.loop-i.i + 1) _ c.in-Some.kind kinds)) ∙ c.loop-i.invariant
