use Rattle.sg_collectives.proofs.Others.{peers_are_others}
use Rattle.sg_collectives.proofs.laws.peers_are_others.Goals as goal

pub returns : goal.returns
returns c = peers_are_others
