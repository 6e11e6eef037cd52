use Rattle.sg_engine.proofs.PutLines.{put_written}
use Rattle.sg_engine.proofs.Uncut.{exit_is}
use Rattle.sg_engine.proofs.printing.write_lines.Goals as goal

pub returns-in_err-put_records-clause-writes : goal.returns-in_err-put_records-clause-writes
returns-in_err-put_records-clause-writes g c = rw (exit_is c.in_err-put_records.field-0.0 c.from_residual.result c.from_residual.ensures.1) (rw c.requires.empty at c.in_err-put_records.ensures)

pub returns-clause-writes : goal.returns-clause-writes
returns-clause-writes g c = put_written _ _ c.flush.result _ _ _ (rw c.requires.empty at (c.in_ok-put_records.ensures {u = tt})) c.flush.ensures.writes
