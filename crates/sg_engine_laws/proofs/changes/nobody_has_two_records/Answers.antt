use Rattle.sg_engine_laws.proofs.change_lemmas.Once.{nobody_has_two_records}
use Rattle.sg_engine_laws.proofs.changes.nobody_has_two_records.Goals as goal

pub returns : goal.returns
returns c = nobody_has_two_records
