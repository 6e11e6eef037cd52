use Rattle.sg_engine_laws.proofs.ending_lemmas.Left.{budgets_end_before_events}
use Rattle.sg_engine_laws.proofs.endings.budgets_end_before_events.Goals as goal

pub returns : goal.returns
returns c = budgets_end_before_events
