use Rattle.sg_engine_laws.proofs.change_lemmas.Order.{kills_tell_in_order}
use Rattle.sg_engine_laws.proofs.changes.kills_tell_in_order.Goals as goal

pub returns : goal.returns
returns c = kills_tell_in_order
