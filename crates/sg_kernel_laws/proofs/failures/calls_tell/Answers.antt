use Rattle.sg_kernel_laws.proofs.failure_lemmas.Called.{calls_tell}
use Rattle.sg_kernel_laws.proofs.failures.calls_tell.Goals as goal

pub returns : goal.returns
returns c = calls_tell
