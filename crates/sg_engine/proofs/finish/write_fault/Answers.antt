use Rattle.sg_engine.proofs.Fronts.{tells_err, told_behind, told_broke}
use Rattle.sg_engine.proofs.Uncut.{exit_is}
use Rattle.sg_engine.proofs.finish.write_fault.Goals as goal

pub returns-in_err-flush : goal.returns-in_err-flush
returns-in_err-flush g c = rw (exit_is c.in_err-flush.field-0.0 c.from_residual.result c.from_residual.ensures.1) (told_broke _ _ _ _ c.in_err-flush.ensures.writes)

pub returns : goal.returns
returns g c =
    let done = c.append.ensures in
    told_behind _ _ c.append.result _ _ _ (c.in_ok-flush.ensures {u = tt}).writes
    (rw (← c.as_bytes.ensures.value) (tells_err _ _ _ c.append.result _ _ done.wrote done.sound done.front done.failed done.other done.same))
