use Rattle.sg_sync.proofs.Losses.{once_after}
use Rattle.sg_sync.proofs.laws.actors_wait_once.Goals as goal

pub returns : goal.returns
returns c = once_after
