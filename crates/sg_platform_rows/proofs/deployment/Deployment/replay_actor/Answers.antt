use Rattle.std.proofs.Common.{arith, ◌∙◌, sym}
use Rattle.sg_platform_rows.proofs.RowsBelow.{row_below}
use Rattle.sg_platform_rows.specs.Deployment.{replay_names}
use Rattle.sg_platform_rows.proofs.deployment.Deployment.replay_actor.Goals as goal

pub overflow_add-result : goal.overflow_add-result
overflow_add-result c =
    let below = row_below replay_names c.self.inside.actors.items c.args.name.now c.in_ok-row.row (sym (c.in_ok-row.ensures ∙ c.self.invariant.replay c.args.name.now)) in
    omega (arith, below, c.self.invariant.kept.few_actors)
