use Rattle.sg_kernel_laws.proofs.actor_lemmas.Created.{creates_are_exact}
use Rattle.sg_kernel_laws.proofs.actors.creates_are_exact.Goals as goal

pub returns : goal.returns
returns c = creates_are_exact
