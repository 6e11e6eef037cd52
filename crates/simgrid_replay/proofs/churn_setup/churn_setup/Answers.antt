use Rattle.std.proofs.Common.{sym, subst}
use Rattle.sg_platform_rows.specs.Deployment.{Deployed, IsDeployedOn}
use Rattle.sg_platform_rows.specs.Platform.{Platform}
use Rattle.simgrid_replay.proofs.churn_setup.churn_setup.Goals as goal

pub with-requires : goal.with-requires
with-requires c =
    subst (λ (platform : Platform). IsDeployedOn platform c.in_ok-deployment.deployment) (sym c.in-Ok-routed.ensures)
    (subst (λ (deployed : Deployed). IsDeployedOn c.in-Ok.platform deployed) (sym c.in_ok-deployment.ensures.same.0) c.in-Ok-churn_deployment.ensures.deployed)
