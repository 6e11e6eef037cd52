use Rattle.sg_engine_laws.proofs.change_lemmas.Answers.{failed_answers_have_records_in_runs}
use Rattle.sg_engine_laws.proofs.changes.failed_answers_have_records_in_runs.Goals as goal

pub returns : goal.returns
returns c = failed_answers_have_records_in_runs
