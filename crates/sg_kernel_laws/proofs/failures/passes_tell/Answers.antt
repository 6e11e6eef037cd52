use Rattle.sg_kernel_laws.proofs.failure_lemmas.Passed.{passes_tell}
use Rattle.sg_kernel_laws.proofs.failures.passes_tell.Goals as goal

pub returns : goal.returns
returns c = passes_tell
