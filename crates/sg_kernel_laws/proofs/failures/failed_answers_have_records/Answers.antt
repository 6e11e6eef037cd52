use Rattle.sg_kernel_laws.proofs.failure_lemmas.Answers.{failed_answers_have_records}
use Rattle.sg_kernel_laws.proofs.failures.failed_answers_have_records.Goals as goal

pub returns : goal.returns
returns c = failed_answers_have_records
