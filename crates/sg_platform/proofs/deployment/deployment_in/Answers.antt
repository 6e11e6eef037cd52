use Rattle.std.proofs.Common.{sym, ap, subst, length, ◌∙◌}
use Rattle.sg_platform.proofs.Deployed.{deployed_without_faults, deployment_without_faults, known_hosts}
use Rattle.sg_platform_rows.specs.Deployment.{IsDeployedOn}
use Rattle.sg_platform_rows.specs.Index.{host_number}
use Rattle.sg_toml_rules.proofs.KeptArguments.{known_workers}
use Rattle.sg_toml_tree.specs.Names.{Known}
use Rattle.sg_toml_tree.specs.kept.NamesView.{names_view}
use Rattle.toml.specs.View.{table_view}
use Rattle.sg_platform.proofs.deployment.deployment_in.Goals as goal

pub rows_of-requires : goal.rows_of-requires
rows_of-requires c =
    let hosts = c.args.platform.now.hosts in
    let tree = table_view c.args.tree.now in
    let finds = ap (λ (k : Known). k.workers) c.requires ∙ known_workers 0 (length hosts) (host_number hosts) tree in
    deployment_without_faults (names_view c.args.names.now) tree finds (sym c.in_ok-fault.ensures ∙ c.in-None.is)

pub returns-in_ok-rows_of-in-None-clause-deployed : goal.returns-in_ok-rows_of-in-None-clause-deployed
returns-in_ok-rows_of-in-None-clause-deployed c =
    let platform = c.args.platform.now in
    let tree = table_view c.args.tree.now in
    let hosts = ap (λ (k : Known). k.hosts) c.requires ∙ known_hosts 0 (length platform.hosts) (host_number platform.hosts) tree in
    subst (IsDeployedOn platform) (sym c.in_ok-rows_of-in-None.ensures) (deployed_without_faults (names_view c.args.names.now) tree platform hosts (sym c.in_ok-fault.ensures ∙ c.in-None.is))
