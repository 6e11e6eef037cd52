use Rattle.std.proofs.Common.{arith, ◌∙◌, ◌∷◌, [], sym}
use Rattle.sg_platform_rows.proofs.RowsBelow.{row_below}
use Rattle.sg_platform_rows.proofs.deployment.Deployment.actor.Goals as goal

pub overflow_add-result : goal.overflow_add-result
overflow_add-result c =
    let below = row_below (λ actor. actor.name ∷ []) c.self.inside.actors.items c.args.name.now c.in_ok-row.row.now (sym (c.in_ok-row.ensures.value ∙ c.self.invariant.actors c.args.name.now)) in
    omega (arith, below, c.self.invariant.kept.few_actors)
