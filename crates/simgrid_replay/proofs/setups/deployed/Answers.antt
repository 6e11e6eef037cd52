use Rattle.std.proofs.Common.{sym, subst}
use Rattle.sg_platform_rows.specs.Deployment.{Deployed, IsDeployedOn}
use Rattle.sg_platform_rows.specs.Platform.{Platform}
use Rattle.simgrid_replay.proofs.PartLemmas.{settled_on}
use Rattle.simgrid_replay.proofs.setups.deployed.Goals as goal

pub returns-in_ok-deployment-in-Ok-clause-given : goal.returns-in_ok-deployment-in-Ok-clause-given
returns-in_ok-deployment-in-Ok-clause-given g c = λ d gives.
    settled_on c.args.platform c.platform-2.result.now c.args.texts.now.script c.args.contexts d c.in-Ok.deployment c.in_ok-deployment-in-Ok.deployment c.with.result
    c.platform-2.ensures (c.in-Ok.ensures.given d gives (λ e. cc)) c.in_ok-deployment-in-Ok.ensures.given c.with.ensures.platform c.with.ensures.deployment

pub with-requires : goal.with-requires
with-requires g c =
    subst (λ (platform : Platform). IsDeployedOn platform c.in_ok-deployment-in-Ok.deployment) c.platform-2.ensures
    (subst (λ (deployed : Deployed). IsDeployedOn c.platform-2.result.now deployed) (sym c.in_ok-deployment-in-Ok.ensures.same.0) c.in-Ok.ensures.deployed)
