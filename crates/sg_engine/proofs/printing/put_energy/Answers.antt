use Rattle.std.proofs.Common.{◌∙◌, ap, arith, get_or, length}
use Rattle.sg_engine.proofs.PutLines.{line_put, line_broke, none_left, energy_more, energy_none}
use Rattle.sg_engine.proofs.Uncut.{exit_is}
use Rattle.sg_engine.proofs.printing.put_energy.Goals as goal

pub loop-i-preserved : goal.loop-i-preserved
loop-i-preserved g c =
    let hosts = c.args.end.now.plan.platform.now.hosts in
    let row = c.index-rows-i.result in
    let rows = c.hosts-rows.ensures.rows in
    line_put _ c.loop-i.buffer _ _ _ _ _ _ _
    (energy_more c.args.end.now.plan.platform.now c.args.end.now.plan.deployment.now c.args.end.now.kernel.now.core.under.energy hosts c.loop-i.i row (omega (arith, c.loop-i-test.true, ap length rows)) (c.index-rows-i.is ∙ ap (λ l. get_or l c.loop-i.i row) rows)) c.loop-i.invariant
    (rw c.energy-told.ensures at (c.in_ok-put_if.ensures {u = tt}))

pub returns-in_err-put_if : goal.returns-in_err-put_if
returns-in_err-put_if g c =
    let hosts = c.args.end.now.plan.platform.now.hosts in
    let row = c.index-rows-i.result in
    let rows = c.hosts-rows.ensures.rows in
    rw (exit_is c.in_err-put_if.field-0.0 c.from_residual.result c.from_residual.ensures.1) (line_broke _ c.loop-i.buffer _ _ _ _ _ _
    (energy_more c.args.end.now.plan.platform.now c.args.end.now.plan.deployment.now c.args.end.now.kernel.now.core.under.energy hosts c.loop-i.i row (omega (arith, c.loop-i-test.true, ap length rows)) (c.index-rows-i.is ∙ ap (λ l. get_or l c.loop-i.i row) rows)) c.loop-i.invariant
    (rw c.energy-told.ensures at c.in_err-put_if.ensures))

pub returns : goal.returns
returns g c =
    none_left _ c.loop-i.buffer _ _ _ (energy_none c.args.end.now.plan.platform.now c.args.end.now.plan.deployment.now c.args.end.now.kernel.now.core.under.energy c.args.end.now.plan.platform.now.hosts c.loop-i.i (omega (arith, c.loop-i-test.false, ap length c.hosts-rows.ensures.rows))) c.loop-i.invariant
