use Rattle.std.proofs.Common.{◌∙◌, ap, codes, map, refl}
use Rattle.sg_platform.specs.Build.{host_row, router_row}
use Rattle.sg_toml_tree.specs.kept.NamesView.{names_view}
use Rattle.sg_platform.proofs.platform.read_places.Goals as goal

pub returns-clause-hosts : goal.returns-clause-hosts
returns-clause-hosts c =
    c.in_ok-hosts.ensures.rows ∙ ap (map (host_row (names_view c.args.names.now))) (c.in_ok-zones.ensures.others (codes "host") (refl, tt))

pub returns-clause-routers : goal.returns-clause-routers
returns-clause-routers c =
    let left = c.in_ok-hosts.ensures.others (codes "router") (refl, tt) ∙ c.in_ok-zones.ensures.others (codes "router") (refl, tt) in
    c.in_ok-routers.ensures.rows ∙ ap (map (router_row (names_view c.args.names.now))) left

pub returns-clause-others : goal.returns-clause-others
returns-clause-others c = λ q off.
    c.in_ok-routers.ensures.others q (off.1.1.0, tt) ∙ c.in_ok-hosts.ensures.others q (off.1.0, tt) ∙ c.in_ok-zones.ensures.others q (off.0, tt)
