use Rattle.std.proofs.Common.{◌∙◌, ap, option_map}
use Rattle.sg_toml_tree.proofs.TakenRows.{kept_rows}
use Rattle.toml.proofs.Views.{view-lookup}
use Rattle.toml.specs.View.{view}
use Rattle.sg_toml_tree.proofs.tree.take_value.Goals as goal

pub returns-clause-value : goal.returns-clause-value
returns-clause-value c = ap (option_map view) c.remove.ensures.value ∙ view-lookup c.args.name.now c.args.tree.now.entries

pub returns-clause-others : goal.returns-clause-others
returns-clause-others c = λ q off. kept_rows q c.args.name.now _ _ c.remove.ensures.entries off.0
