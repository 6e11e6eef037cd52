use Rattle.sg_engine_laws.proofs.change_lemmas.Answered.{passes_answer}
use Rattle.sg_engine_laws.proofs.changes.passes_answer.Goals as goal

pub returns : goal.returns
returns c = passes_answer
