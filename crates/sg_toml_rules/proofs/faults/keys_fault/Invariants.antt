use Rattle.std.proofs.Common.{◌≡◌, drop, map}
use Rattle.toml.specs.View.{view}
use Rattle.sg_toml_tree.specs.kept.NamesView.{names_view}
use Rattle.sg_toml_tree.specs.Along.{first, along}
use Rattle.sg_toml_rules.proofs.FaultParts.{key_faults}
use Rattle.sg_toml_keys.specs.kept.Shown.{key_of}
use Rattle.sg_toml_rules.proofs.faults.keys_fault.Given as goal

abbrev pub invariant-loop-i : goal.invariant-loop-i
invariant-loop-i l =
    let f = key_faults (names_view l.names) l.number l.place.table l.place.row (view l.row) in
    first (along f l.i (map key_of (drop l.i l.keys))) ≡ first (along f 0 (map key_of l.keys))
