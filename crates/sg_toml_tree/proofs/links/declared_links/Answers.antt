use Rattle.std.proofs.Common.{◌≡◌, ◌∙◌, None}
use Rattle.std.specs.HashMap.{get_by_text}
use Rattle.sg_toml_tree.specs.LinkNames.{link_names}
use Rattle.sg_toml_tree.proofs.NameSpaceLemmas.{flat_map_map}
use Rattle.toml.specs.View.{view}
use Rattle.sg_toml_tree.proofs.links.declared_links.Goals as goal

pub returns : goal.returns
returns c = λ q.
    let empty : get_by_text c.new-made.result q ≡ None = rw c.new-made.ensures.empty in
    c.in_ok-add_links.ensures q ∙ rw (empty, flat_map_map view link_names c.args.rows.now)
