use Rattle.std.proofs.Common.{sym}
use Rattle.sg_toml_rules.proofs.faults.fault_of_keys.Goals as goal

pub returns-then-is_plain : goal.returns-then-is_plain
returns-then-is_plain c =
    let keeps = c.is_plain.ensures c.if-is_plain.true in
    sym (keeps.none c.args.place.table c.args.place.row)
