use Rattle.std.specs.HashMap.{get_by_text}
use Rattle.std.specs.Str.{bytes_eq}
use Rattle.sg_toml_tree.specs.LinkNames.{taken_names}
use Rattle.sg_toml_tree.proofs.NameSpaceLemmas.{made_along}
use Rattle.sg_toml_tree.specs.NameSpaces.{with_number}
use Rattle.toml.specs.View.{view}
use Rattle.sg_toml_tree.proofs.links.taken_links.Goals as goal

pub returns : goal.returns
returns c = λ q.
    made_along view (λ i row. with_number i (taken_names row)) (bytes_eq q) c.args.rows.now (get_by_text c.new-made.result q) _ (rw c.new-made.ensures.empty) (c.in_ok-add_all_taken.ensures q)
