use Rattle.std.proofs.Common.{◌∙◌, ap}
use Rattle.std.specs.Map.{lookup}
use Rattle.std.specs.Str.{bytes_eq}
use Rattle.sg_platform_rows.specs.kept.Finds.{finds, numbered_names}
use Rattle.sg_toml_tree.proofs.NameSpaceLemmas.{along_turn}
use Rattle.sg_toml_tree.specs.NameSpaces.{or_else}
use Rattle.sg_platform_rows.proofs.index.add_rows.Goals as goal

pub loop-i-preserved : goal.loop-i-preserved
loop-i-preserved g c = λ q.
    let names = numbered_names g.R.Named.names in
    let old = finds c.loop-i.space q in
    let step = c.in_ok-add.ensures q ∙ ap (λ r. or_else old (lookup (bytes_eq q) (names c.loop-i.i r))) c.index-rows-i.is in
    along_turn (bytes_eq q) names c.args.rows.now c.loop-i.i c.index-rows-i.result old _ c.loop-i-test.true step ∙ c.loop-i.invariant q
