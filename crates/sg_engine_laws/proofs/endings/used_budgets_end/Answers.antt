use Rattle.sg_engine_laws.proofs.ending_lemmas.Used.{used_budgets_end}
use Rattle.sg_engine_laws.proofs.endings.used_budgets_end.Goals as goal

pub returns : goal.returns
returns c = used_budgets_end
