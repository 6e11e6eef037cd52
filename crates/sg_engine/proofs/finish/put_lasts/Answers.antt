use Rattle.sg_engine.proofs.LastLines.{last_parts}
use Rattle.sg_engine.proofs.PutLines.{first_breaks, puts_then}
use Rattle.sg_engine.proofs.Uncut.{exit_is}
use Rattle.sg_engine.proofs.finish.put_lasts.Goals as goal

pub returns-in_err-put_how : goal.returns-in_err-put_how
returns-in_err-put_how g c = rw (exit_is c.in_err-put_how.field-0.0 c.from_residual.result c.from_residual.ensures.1, last_parts c.args.end.now.plan.platform.now c.args.end.now.plan.deployment.now c.args.end.now.kernel.now.core c.args.told)
    (first_breaks c.args.buffer.now _ _ _ _ c.in_err-put_how.ensures)

pub returns : goal.returns
returns g c = rw (last_parts c.args.end.now.plan.platform.now c.args.end.now.plan.deployment.now c.args.end.now.kernel.now.core c.args.told)
    (puts_then c.args.buffer.now _ _ _ _ c.put_energy.result _ _ _ (c.in_ok-put_how.ensures {u = tt}) c.put_energy.ensures)
