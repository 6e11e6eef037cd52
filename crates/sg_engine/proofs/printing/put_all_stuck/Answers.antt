use Rattle.std.proofs.Common.{arith}
use Rattle.sg_engine.proofs.PutLines.{line_put, line_broke, none_left, stuck_more, stuck_none}
use Rattle.sg_engine.proofs.Uncut.{exit_is}
use Rattle.sg_engine.proofs.printing.put_all_stuck.Goals as goal

pub loop-i-preserved : goal.loop-i-preserved
loop-i-preserved g c =
    line_put _ c.loop-i.buffer _ _ _ _ _ _ _ (stuck_more c.args.end.now.plan.platform.now c.args.end.now.plan.deployment.now c.args.end.now.kernel.now.core.actors c.loop-i.i (omega (arith, c.loop-i-test.true, c.actors-i-end.ensures.is))) c.loop-i.invariant
    (rw c.stuck-told.ensures.is at (c.in_ok-put_if.ensures {u = tt}))

pub returns-in_err-put_if : goal.returns-in_err-put_if
returns-in_err-put_if g c =
    rw (exit_is c.in_err-put_if.field-0.0 c.from_residual.result c.from_residual.ensures.1) (line_broke _ c.loop-i.buffer _ _ _ _ _ _ (stuck_more c.args.end.now.plan.platform.now c.args.end.now.plan.deployment.now c.args.end.now.kernel.now.core.actors c.loop-i.i (omega (arith, c.loop-i-test.true, c.actors-i-end.ensures.is))) c.loop-i.invariant
    (rw c.stuck-told.ensures.is at c.in_err-put_if.ensures))

pub returns : goal.returns
returns g c = none_left _ c.loop-i.buffer _ _ _ (stuck_none c.args.end.now.plan.platform.now c.args.end.now.plan.deployment.now c.args.end.now.kernel.now.core.actors c.loop-i.i (omega (arith, c.loop-i-test.false, c.actors-i-end.ensures.is))) c.loop-i.invariant
