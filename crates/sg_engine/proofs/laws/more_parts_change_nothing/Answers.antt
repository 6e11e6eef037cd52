use Rattle.sg_engine.proofs.Fuel.{more_same}
use Rattle.sg_engine.proofs.laws.more_parts_change_nothing.Goals as goal

pub returns : goal.returns
returns c = more_same
