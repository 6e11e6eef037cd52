use Rattle.sg_collectives.proofs.Matching.{requests_are_awaited}
use Rattle.sg_collectives.proofs.laws.requests_are_awaited.Goals as goal

pub returns : goal.returns
returns c = requests_are_awaited
