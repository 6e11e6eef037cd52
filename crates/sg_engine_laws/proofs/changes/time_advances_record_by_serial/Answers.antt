use Rattle.sg_engine_laws.proofs.change_lemmas.Rising.{time_advances_record_by_serial}
use Rattle.sg_engine_laws.proofs.changes.time_advances_record_by_serial.Goals as goal

pub returns : goal.returns
returns c = time_advances_record_by_serial
