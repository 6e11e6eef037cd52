use Rattle.sg_collectives.proofs.Others.{alone_does_nothing}
use Rattle.sg_collectives.proofs.laws.alone_does_nothing.Goals as goal

pub returns : goal.returns
returns c = alone_does_nothing
