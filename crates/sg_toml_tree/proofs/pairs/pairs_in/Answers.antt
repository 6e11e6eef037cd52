use Rattle.std.specs.HashMap.{get_by_text, get_by}
use Rattle.toml.specs.View.{view}
use Rattle.sg_toml_tree.specs.NameSpaces.{with_number, pair_eq}
use Rattle.sg_toml_tree.specs.Pairs.{pairs_of}
use Rattle.sg_toml_tree.proofs.NameSpaceLemmas.{made_along}
use Rattle.sg_toml_tree.proofs.pairs.pairs_in.Goals as goal

pub returns : goal.returns
returns c = λ q.
    made_along view (λ i row. with_number i (pairs_of (λ n. get_by_text c.args.points.now n) row)) (pair_eq q) c.args.rows.now (get_by (pair_eq q) c.in_ok-made.made) _ (rw c.in_ok-made.ensures.empty) (c.in_ok-add_routes.ensures q)
