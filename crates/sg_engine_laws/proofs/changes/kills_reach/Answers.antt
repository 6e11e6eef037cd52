use Rattle.sg_engine_laws.proofs.change_lemmas.Reaching.{kills_reach}
use Rattle.sg_engine_laws.proofs.changes.kills_reach.Goals as goal

pub returns : goal.returns
returns c = kills_reach
