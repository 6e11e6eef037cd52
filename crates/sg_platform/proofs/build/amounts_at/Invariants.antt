use Rattle.std.proofs.Common.{◌≡◌, map, take}
use Rattle.sg_platform.specs.Functions.{amount_or_zero}
use Rattle.toml.specs.View.{view}
use Rattle.sg_platform.proofs.build.amounts_at.Given as goal

abbrev pub invariant-loop-item : goal.invariant-loop-item
invariant-loop-item l = l.made.items ≡ map (amount_or_zero l.quantity) (map view (take l.item-index l.items))
