use Rattle.sg_engine_laws.proofs.ending_lemmas.Ends.{budgets_are_kept}
use Rattle.sg_engine_laws.proofs.endings.budgets_are_kept.Goals as goal

pub returns : goal.returns
returns c = budgets_are_kept
