use Rattle.std.proofs.Common.{◌≡◌}
use Rattle.sg_platform_churn.specs.Generated.{ring_actor, rows}
use Rattle.sg_platform_churn.proofs.deployment.actor_rows.Given as goal

abbrev pub invariant-loop-row : goal.invariant-loop-row
invariant-loop-row l = l.made.items ≡ rows (ring_actor l.seed l.actors l.steps) l.row
