use Rattle.std.proofs.Common.{◌∙◌, ap, codes, map, refl}
use Rattle.sg_platform.specs.Build.{route_row, spoke_row, zone_route_row}
use Rattle.sg_platform_rows.specs.Ends.{link_ends}
use Rattle.sg_toml_tree.specs.kept.NamesView.{names_view}
use Rattle.sg_platform.proofs.platform.read_ways.Goals as goal

pub returns-clause-routes : goal.returns-clause-routes
returns-clause-routes c =
    c.in_ok-routes.ensures.routes ∙ ap (map (route_row (names_view c.args.names.now))) (c.in_ok-links.ensures.others (codes "route") (refl, tt))

pub returns-clause-zone_routes : goal.returns-clause-zone_routes
returns-clause-zone_routes c =
    c.in_ok-routes.ensures.zone_routes ∙ ap (map (zone_route_row (names_view c.args.names.now))) (c.in_ok-links.ensures.others (codes "zone_route") (refl, tt))

pub returns-clause-spokes : goal.returns-clause-spokes
returns-clause-spokes c =
    let names = names_view c.args.names.now in
    let ends = c.as_slice-2.ensures.value ∙ c.in_ok-ends.ensures ∙ ap link_ends c.as_slice.ensures.value in
    let left = c.in_ok-links.ensures.others (codes "spoke") (refl, tt) in
    c.in_ok-routes.ensures.spokes ∙ (λ i. map (spoke_row names (ends i)) (left i))

pub returns-clause-others : goal.returns-clause-others
returns-clause-others c = λ q off. c.in_ok-routes.ensures.others q off.1 ∙ c.in_ok-links.ensures.others q (off.0, tt)
