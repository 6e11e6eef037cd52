use Rattle.std.proofs.Common.{◌∙◌, ap, ℕ, List}
use Rattle.std.specs.HashMap.{get_by_text, get_by}
use Rattle.std.specs.Map.{lookup}
use Rattle.toml.specs.View.{view}
use Rattle.toml.specs.declared.value.Value.{Value}
use Rattle.sg_toml_tree.specs.NameSpaces.{with_number, or_else, Pair, pair_eq}
use Rattle.sg_toml_tree.specs.Pairs.{pairs_of}
use Rattle.sg_toml_tree.proofs.NameSpaceLemmas.{along_turn}
use Rattle.sg_toml_tree.proofs.pairs.add_routes.Goals as goal

pub loop-i-preserved : goal.loop-i-preserved
loop-i-preserved c = λ q.
    let row = c.index-rows-i.result in
    let f : ℕ → Value → List (Pair × ℕ) = λ i r. with_number i (pairs_of (λ n. get_by_text c.args.points.now n) (view r)) in
    let step = c.in_ok-add_route.ensures q ∙ ap (λ r. or_else (get_by (pair_eq q) c.loop-i.pairs) (lookup (pair_eq q) (f c.loop-i.i r))) c.index-rows-i.is in
    along_turn (pair_eq q) f c.args.rows.now c.loop-i.i row _ _ c.loop-i-test.true step ∙ c.loop-i.invariant q
