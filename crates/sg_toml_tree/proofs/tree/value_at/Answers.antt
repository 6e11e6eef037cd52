use Rattle.toml.proofs.Views.{table_get}
use Rattle.sg_toml_tree.proofs.tree.value_at.Goals as goal

pub returns : goal.returns
returns c = table_get c.get.result c.args.name.now c.args.tree.now.entries c.get.ensures.value
