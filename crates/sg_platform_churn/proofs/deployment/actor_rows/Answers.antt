use Rattle.sg_platform_churn.proofs.NumberedRows.{pushed}
use Rattle.sg_platform_churn.specs.Generated.{ring_actor}
use Rattle.sg_platform_churn.proofs.deployment.actor_rows.Goals as goal

pub loop-row-preserved : goal.loop-row-preserved
loop-row-preserved c =
    pushed (ring_actor c.args.seed c.args.actors c.args.steps) c.loop-row.row _ _ _ c.loop-row.invariant c.in_ok-actor_row.ensures c.in_ok-push.ensures.items
