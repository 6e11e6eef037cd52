use Rattle.std.proofs.Common.{◌∙◌, ap, map, map-id, sym}
use Rattle.std.proofs.lemmas.Iterator.Adapters.{YieldsList-from_vec}
use Rattle.std.proofs.lemmas.Iterator.Consumers.{YieldsList-end}
use Rattle.sg_toml_tree.specs.kept.NamesView.{names_view}
use Rattle.toml.specs.View.{view}
use Rattle.sg_platform.proofs.build.read_rows.Goals as goal

pub returns : goal.returns
returns g c =
    let gives = c.into_iter-row-iterator.ensures.into_iter_gives in
    let all = YieldsList-from_vec c.args.rows.items gives.0 (gives.1 ∙ c.args.rows.ok.0) in
    let end = YieldsList-end all c.loop-row.yielded _ c.loop-row.yielded_by _ c.next.new.self c.in-None.is c.next.ensures.steps in
    c.loop-row.invariant ∙ ap (λ rows. map (g.R.Row.row_of (names_view c.args.names.now) c.args.ends.now) (map view rows)) (sym (map-id c.loop-row.yielded) ∙ end.0)
