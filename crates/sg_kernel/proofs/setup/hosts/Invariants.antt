use Rattle.std.proofs.Common.{◌≡◌, map, take}
use Rattle.sg_kernel_calls.specs.Setup.{host_cap}
use Rattle.sg_kernel.proofs.setup.hosts.Given as goal

abbrev pub invariant-loop-row : goal.invariant-loop-row
invariant-loop-row l = l.hosts.items ≡ map host_cap (take l.row-index l.rows)
