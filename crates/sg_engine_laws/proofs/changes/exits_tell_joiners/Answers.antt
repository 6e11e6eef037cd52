use Rattle.sg_engine_laws.proofs.change_lemmas.Order.{exits_tell_joiners}
use Rattle.sg_engine_laws.proofs.changes.exits_tell_joiners.Goals as goal

pub returns : goal.returns
returns c = exits_tell_joiners
