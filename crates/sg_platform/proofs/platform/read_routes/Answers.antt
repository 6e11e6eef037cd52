use Rattle.std.proofs.Common.{◌∙◌, ap, codes, map, refl}
use Rattle.sg_platform.specs.Build.{spoke_row, zone_route_row}
use Rattle.sg_toml_tree.specs.kept.NamesView.{names_view}
use Rattle.sg_platform.proofs.platform.read_routes.Goals as goal

pub returns-clause-zone_routes : goal.returns-clause-zone_routes
returns-clause-zone_routes c =
    c.in_ok-zone_routes.ensures.rows ∙ ap (map (zone_route_row (names_view c.args.names.now))) (c.in_ok-routes.ensures.others (codes "zone_route") (refl, tt))

pub returns-clause-spokes : goal.returns-clause-spokes
returns-clause-spokes c =
    let left = c.in_ok-zone_routes.ensures.others (codes "spoke") (refl, tt) ∙ c.in_ok-routes.ensures.others (codes "spoke") (refl, tt) in
    c.in_ok-spokes.ensures.rows ∙ ap (map (spoke_row (names_view c.args.names.now) c.args.ends.now)) left

pub returns-clause-others : goal.returns-clause-others
returns-clause-others c = λ q off.
    c.in_ok-spokes.ensures.others q (off.1.1.0, tt) ∙ c.in_ok-zone_routes.ensures.others q (off.1.0, tt) ∙ c.in_ok-routes.ensures.others q (off.0, tt)
