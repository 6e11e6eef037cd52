use Rattle.sg_engine.proofs.PutLines.{first_breaks, put_breaks, puts_then}
use Rattle.sg_engine.proofs.Uncut.{exit_is}
use Rattle.sg_engine.proofs.finish.put_how.Goals as goal

pub returns-in_err-put_if : goal.returns-in_err-put_if
returns-in_err-put_if g c = rw (exit_is c.in_err-put_if.field-0.0 c.from_residual.result c.from_residual.ensures.1) (first_breaks c.args.buffer.now _ _ _ _ c.in_err-put_if.ensures)

pub returns-in_err-put_last : goal.returns-in_err-put_last
returns-in_err-put_last g c = rw (exit_is c.in_err-put_last.field-0.0 c.from_residual-in_err-put_last.result c.from_residual-in_err-put_last.ensures.1)
    (put_breaks c.args.buffer.now _ _ _ _ _ _ (c.in_ok-put_if.ensures {u = tt}) (first_breaks c.put_if.new.buffer _ _ _ _ c.in_err-put_last.ensures))

pub returns : goal.returns
returns g c =
    puts_then c.args.buffer.now _ _ _ _ c.put_stuck.result _ _ _ (c.in_ok-put_if.ensures {u = tt})
    (puts_then c.put_if.new.buffer _ _ _ _ c.put_stuck.result _ _ _ (c.in_ok-put_last.ensures {u = tt}) c.put_stuck.ensures)
