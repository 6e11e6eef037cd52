use Rattle.sg_kernel_laws.proofs.actor_lemmas.Dead.{answers_stay}
use Rattle.sg_kernel_laws.proofs.actors.answers_stay.Goals as goal

pub returns : goal.returns
returns c = answers_stay
