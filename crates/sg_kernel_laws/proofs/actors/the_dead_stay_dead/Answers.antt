use Rattle.sg_kernel_laws.proofs.actor_lemmas.Dead.{dead_stay_dead}
use Rattle.sg_kernel_laws.proofs.actors.the_dead_stay_dead.Goals as goal

pub returns : goal.returns
returns c = dead_stay_dead
