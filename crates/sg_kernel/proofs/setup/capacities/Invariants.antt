use Rattle.std.proofs.Common.{◌≡◌, map, take}
use Rattle.sg_kernel_calls.specs.Setup.{capacity_of}
use Rattle.sg_kernel.proofs.setup.capacities.Given as goal

abbrev pub invariant-loop-row : goal.invariant-loop-row
invariant-loop-row l = l.capacities.items ≡ map capacity_of (take l.row-index l.rows)
