use Rattle.sg_kernel_laws.proofs.failure_lemmas.Others.{no_other_fails}
use Rattle.sg_kernel_laws.proofs.failures.no_other_fails.Goals as goal

pub returns : goal.returns
returns c = no_other_fails
