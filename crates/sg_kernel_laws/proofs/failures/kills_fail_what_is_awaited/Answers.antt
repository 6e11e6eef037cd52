use Rattle.sg_kernel_laws.proofs.failure_lemmas.Given.{kills_fail_what_is_awaited}
use Rattle.sg_kernel_laws.proofs.failures.kills_fail_what_is_awaited.Goals as goal

pub returns : goal.returns
returns c = kills_fail_what_is_awaited
