use Rattle.std.proofs.Common.{◌≡◌, IfOk, ap, subst}
use Rattle.std.specs.HashMap.{get_by_text}
use Rattle.sg_toml_tree.specs.Names.{Known, known_by}
use Rattle.sg_toml_tree.specs.kept.NamesView.{names_view}
use Rattle.toml.specs.View.{table_view}
use Rattle.sg_toml_tree.proofs.names.deployment_names.Goals as goal

pub returns : goal.returns
returns c =
    let same = ap (λ hosts. known_by 0 hosts (λ q. get_by_text c.args.points q) (table_view c.args.tree.now)) c.in_ok-hosts.ensures in
    subst (λ (k : Known). IfOk c.names_with.result (λ names. names_view names ≡ k)) same c.names_with.ensures
