use Rattle.std.proofs.Common.{◌≡◌, ◌<◌, ◌≤◌, length, map, sym, ap, subst, ◌∙◌, arith}
use Rattle.std.proofs.lemmas.List.{get_or_default, length-map}
use Rattle.sg_maxmin.proofs.ChainLemmas.{chain_few, chain_leads, length-resources}
use Rattle.sg_maxmin.specs.Walk.{Leads, next_of_flow, resource_of}
use Rattle.sg_activity.specs.declared.index.Uses.{Uses}
use Rattle.sg_activity.specs.kept.Rows.{Indexed, row_at, things_of, uses_at}
use Rattle.sg_activity.proofs.Chained.{no_uses, row_mapped}
use Rattle.sg_activity.proofs.index.Index.first_of.Goals as goal

pub returns-clause-leads : goal.returns-clause-leads
returns-clause-leads c =
    let rows = c.self.inside.rows.items in
    let uses = c.self.inside.chains.uses in
    let key = c.args.key in
    let within : key < length rows = omega (arith, c.requires, ap (λ (i : Indexed). length i.rows) c.self.view_is, length-map rows (things_of uses)) in
    let read : c.index.result.now ≡ uses_at rows key = c.index.ensures ∙ get_or_default rows key c.index.result.now no_uses within in
    let row : Uses = uses_at rows key in
    let leads : Leads next_of_flow resource_of uses row.first (things_of uses row) = chain_leads key row.count uses row.first (c.self.invariant.chained key) in
    subst (λ (i : Indexed). Leads next_of_flow resource_of i.uses c.index.result.now.first (row_at i.rows key)) c.self.view_is
    (subst (Leads next_of_flow resource_of uses c.index.result.now.first) (sym (row_mapped uses rows key)) (subst (λ (r : Uses). Leads next_of_flow resource_of uses r.first (things_of uses row)) (sym read) leads))

pub returns-clause-few : goal.returns-clause-few
returns-clause-few c =
    let rows = c.self.inside.rows.items in
    let uses = c.self.inside.chains.uses in
    let key = c.args.key in
    let row : Uses = uses_at rows key in
    let few : length (row_at (map (things_of uses) rows) key) ≤ length uses = omega (arith, chain_few key row.count uses row.first (c.self.invariant.chained key), length-resources key row.count uses row.first (c.self.invariant.chained key), ap length (row_mapped uses rows key)) in
    subst (λ (i : Indexed). length (row_at i.rows key) ≤ length i.uses) c.self.view_is few
