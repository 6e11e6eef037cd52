use Rattle.sg_toml_tree.proofs.TakenRows.{array_items}
use Rattle.sg_toml_tree.proofs.tree.items_of.Goals as goal

pub returns-in-Array : goal.returns-in-Array
returns-in-Array c = array_items c.args.value c.in-Array.items c.in-Array.is
