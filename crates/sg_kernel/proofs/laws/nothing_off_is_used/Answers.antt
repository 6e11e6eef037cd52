use Rattle.sg_kernel.proofs.Offs.{asks_clear, calls_clear, creates_clear, first_clear, passes_clear}
use Rattle.sg_kernel.proofs.laws.nothing_off_is_used.Goals as goal

pub returns : goal.returns
returns c = record { first = first_clear; calls = calls_clear; creates = creates_clear; asks = asks_clear; passes = passes_clear }
