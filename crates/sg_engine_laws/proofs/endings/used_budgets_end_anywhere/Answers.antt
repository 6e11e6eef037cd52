use Rattle.sg_engine_laws.proofs.ending_lemmas.Anywhere.{used_budgets_end_anywhere}
use Rattle.sg_engine_laws.proofs.endings.used_budgets_end_anywhere.Goals as goal

pub returns : goal.returns
returns c = used_budgets_end_anywhere
