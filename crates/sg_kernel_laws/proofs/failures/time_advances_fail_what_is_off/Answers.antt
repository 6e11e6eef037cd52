use Rattle.sg_kernel_laws.proofs.failure_lemmas.Cut.{time_advances_fail_what_is_off}
use Rattle.sg_kernel_laws.proofs.failures.time_advances_fail_what_is_off.Goals as goal

pub returns : goal.returns
returns c = time_advances_fail_what_is_off
