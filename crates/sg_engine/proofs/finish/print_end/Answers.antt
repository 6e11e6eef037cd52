use Rattle.std.proofs.lemmas.List.{append-nil}
use Rattle.sg_engine.proofs.Fronts.{tells_out, told_broke}
use Rattle.sg_engine.proofs.PutLines.{put_written}
use Rattle.sg_engine.proofs.Uncut.{exit_is}
use Rattle.sg_engine.proofs.finish.print_end.Goals as goal

pub returns-in_err-put_lasts-in-Lasts : goal.returns-in_err-put_lasts-in-Lasts
returns-in_err-put_lasts-in-Lasts g c = rw (exit_is c.in_err-put_lasts-in-Lasts.field-0.0 c.from_residual.result c.from_residual.ensures.1, ← c.in-Lasts.ensures.is) (told_broke _ _ _ _ c.in_err-put_lasts-in-Lasts.ensures)

pub returns-in_ok-put_lasts-in-Lasts : goal.returns-in_ok-put_lasts-in-Lasts
returns-in_ok-put_lasts-in-Lasts g c = rw (← c.in-Lasts.ensures.is) (tells_out _ _ _ c.flush.result _ _ (put_written _ _ c.flush.result _ _ _ (c.in_ok-put_lasts-in-Lasts.ensures {u = tt}) c.flush.ensures.writes))

pub returns-in-Fault : goal.returns-in-Fault
returns-in-Fault g c = rw (← c.in-Fault.ensures.is, append-nil, ← c.as_str.ensures.value) c.write_fault.ensures

pub returns-in-Nothing : goal.returns-in-Nothing
returns-in-Nothing g c = rw (← c.in-Nothing.ensures.is, append-nil) (tells_out _ _ _ c.flush-in-Nothing.result _ _ c.flush-in-Nothing.ensures.writes)
