use Rattle.std.proofs.Common.{◌≡◌, false, Some}
use Rattle.std.specs.HashMap.{get_by}
use Rattle.std.specs.List.{list_any}
use Rattle.toml.specs.View.{view}
use Rattle.sg_toml_tree.specs.Pairs.{pairs_between}
use Rattle.sg_toml_tree.specs.kept.NamesView.{names_view}
use Rattle.sg_toml_rules.proofs.PlainRoutes.{plain_route}
use Rattle.sg_toml_rules.specs.Rules.{is_below}
use Rattle.sg_toml_tree.specs.NameSpaces.{pair_eq}
use Rattle.sg_toml_rules.proofs.routes.is_plain_route.Goals as goal

pub returns-then-not-is_given_way : goal.returns-then-not-is_given_way
returns-then-not-is_given_way c = λ linked.
    let src = c.in-Some.src in
    let dst = c.in-Some-point_named.dst in
    let both = c.in-Some-symmetry_of.both in
    let free : list_any (λ p. is_below (get_by (pair_eq p) c.args.names.now.pairs) c.args.number) (pairs_between (Some src) (Some dst) both) ≡ false = cc in
    plain_route (names_view c.args.names.now) c.args.number (view c.args.row.now) src dst both c.in-Some.ensures c.in-Some-point_named.ensures c.in-Some-symmetry_of.ensures free (c.has_links.ensures linked)
