use Rattle.std.proofs.Common.{◌∙◌}
use Rattle.sg_toml_tree.proofs.TreeLemmas.{has_only-members_view}
use Rattle.sg_toml_rules.proofs.faults.has_only.Goals as goal

pub returns : goal.returns
returns c = c.are_keys.ensures ∙ has_only-members_view _ c.args.members.now.entries
