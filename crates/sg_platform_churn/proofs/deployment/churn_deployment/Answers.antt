use Rattle.std.proofs.Common.{List, subst, sym}
use Rattle.sg_platform_churn.proofs.GoodActors.{deployment_good}
use Rattle.sg_platform_rows.specs.OfRows.{AreActors}
use Rattle.sg_platform_rows.specs.declared.rows.ActorRow.{ActorRow}
use Rattle.sg_platform_churn.proofs.deployment.churn_deployment.Goals as goal

pub of_rows-requires : goal.of_rows-requires
of_rows-requires c =
    subst (λ (actors : List ActorRow). AreActors c.args.platform.now actors) (sym c.in_ok-rows.ensures)
    (deployment_good c.args.platform.now c.args.seed c.args.actors c.args.steps c.requires.platform c.requires.ring c.requires.few c.requires.steps)
