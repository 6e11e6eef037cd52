use Rattle.std.proofs.Common.{◌≡◌, IfOk, subst}
use Rattle.std.specs.HashMap.{get_by_text}
use Rattle.sg_toml_tree.specs.Names.{Known, known_by, platform_known}
use Rattle.sg_toml_tree.specs.kept.NamesView.{names_view}
use Rattle.toml.specs.View.{table_view}
use Rattle.sg_toml_tree.proofs.names.platform_names.Goals as goal

pub returns : goal.returns
returns c =
    let made = c.in_ok-points.points in
    let are = c.in_ok-points.ensures in
    let tree = table_view c.args.tree.now in
    let same : known_by made.zones made.hosts (λ q. get_by_text made.numbers q) tree ≡ platform_known tree = λ i. known_by (are.zones i) (are.hosts i) (λ q. are.numbers q i) tree in
    subst (λ (k : Known). IfOk c.names_with.result (λ names. names_view names ≡ k)) same c.names_with.ensures
