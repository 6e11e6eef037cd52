use Rattle.std.proofs.Common.{◌∙◌, map}
use Rattle.sg_toml_keys.specs.Tables.{heading}
use Rattle.sg_toml_tree.proofs.TreeLemmas.{has_only-members_view}
use Rattle.sg_toml_rules.proofs.faults.has_only_tables.Goals as goal

pub returns : goal.returns
returns c = c.are_tables.ensures ∙ has_only-members_view (map (λ table. (heading table).name) c.args.tables.now) c.args.members.now.entries
