use Rattle.std.proofs.Common.{arith}
use Rattle.sg_engine.proofs.PutLines.{line_put, line_broke, none_left, trace_more, trace_none}
use Rattle.sg_engine.proofs.Uncut.{exit_is}
use Rattle.sg_engine.proofs.printing.put_records.Goals as goal

pub returns-in_err-put_record : goal.returns-in_err-put_record
returns-in_err-put_record g c = rw (exit_is c.in_err-put_record.field-0.0 c.from_residual.result c.from_residual.ensures.1) (line_broke _ c.loop-answered.buffer _ _ _ _ _ _ (trace_more c.args.plan.now.platform.now c.args.plan.now.deployment.now c.args.records.now c.loop-answered.answered-index _ c.loop-answered-test.true) c.loop-answered.invariant c.in_err-put_record.ensures)

pub loop-answered-preserved : goal.loop-answered-preserved
loop-answered-preserved g c = line_put _ c.loop-answered.buffer _ _ _ _ _ _ _ (trace_more c.args.plan.now.platform.now c.args.plan.now.deployment.now c.args.records.now c.loop-answered.answered-index _ c.loop-answered-test.true) c.loop-answered.invariant (c.in_ok-put_record.ensures {u = tt})

pub returns : goal.returns
returns g c = none_left _ c.loop-answered.buffer _ _ _ (trace_none c.args.plan.now.platform.now c.args.plan.now.deployment.now c.args.records.now c.loop-answered.answered-index (omega (arith, c.loop-answered-test.false))) c.loop-answered.invariant
