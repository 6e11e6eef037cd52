use Rattle.std.proofs.Common.{◌∙◌, ap}
use Rattle.std.specs.HashMap.{get_by_text}
use Rattle.std.specs.Map.{lookup}
use Rattle.std.specs.Str.{bytes_eq}
use Rattle.sg_toml_tree.specs.LinkNames.{taken_names}
use Rattle.sg_toml_tree.proofs.NameSpaceLemmas.{along_turn}
use Rattle.sg_toml_tree.specs.NameSpaces.{or_else, with_number}
use Rattle.toml.specs.View.{view}
use Rattle.sg_toml_tree.proofs.links.add_all_taken.Goals as goal

pub loop-i-preserved : goal.loop-i-preserved
loop-i-preserved c = λ q.
    let old = get_by_text c.loop-i.space q in
    let step = c.in_ok-add_taken.ensures q ∙ ap (λ r. or_else old (lookup (bytes_eq q) (with_number c.loop-i.i (taken_names (view r))))) c.index-rows-i.is in
    along_turn (bytes_eq q) (λ i row. with_number i (taken_names (view row))) c.args.rows.now c.loop-i.i c.index-rows-i.result old _ c.loop-i-test.true step ∙ c.loop-i.invariant q
