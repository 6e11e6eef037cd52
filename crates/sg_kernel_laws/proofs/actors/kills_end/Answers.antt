use Rattle.sg_kernel_laws.proofs.actor_lemmas.Killed.{kills_end}
use Rattle.sg_kernel_laws.proofs.actors.kills_end.Goals as goal

pub returns : goal.returns
returns c = kills_end
