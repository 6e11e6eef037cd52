use Rattle.sg_engine.proofs.Creating.{created_used, used_from}
use Rattle.sg_engine.proofs.Uncut.{ended_from}
use Rattle.sg_engine.proofs.answers.answer_create.Goals as goal

pub returns-in_err-fresh-clause-step : goal.returns-in_err-fresh-clause-step
returns-in_err-fresh-clause-step g c = λ part begun taken world stands.
    rw (ended_from _ c.in_err-fresh.field-0.0 _ c.from_residual.result c.from_residual.ensures.1 c.in_err-fresh.ensures)
    (created_used _ taken _ part _ c.args.sim.now.kernel world _ c.args.actor.0 c.args.target begun stands (used_from _ _ _ _ c.in_err-fresh.ensures))
