use Rattle.std.proofs.Common.{◌≡◌, drop, ◌++◌}
use Rattle.std.specs.List.{flat_map}
use Rattle.sg_kernel_calls.specs.Setup.{caps_in}
use Rattle.sg_kernel.proofs.setup.links.Given as goal

abbrev pub invariant-loop-row : goal.invariant-loop-row
invariant-loop-row l = flat_map (caps_in l.network) l.rows ≡ l.links.items ++ flat_map (caps_in l.network) (drop l.row-index l.rows)
