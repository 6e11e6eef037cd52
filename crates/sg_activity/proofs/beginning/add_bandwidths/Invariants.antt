use Rattle.std.proofs.Common.{◌≡◌, ◌++◌, map, take}
use Rattle.sg_activity_table.specs.declared.kinds.LinkCap.{LinkCap}
use Rattle.sg_activity.proofs.beginning.add_bandwidths.Given as goal

abbrev pub invariant-loop-link : goal.invariant-loop-link
invariant-loop-link l = l.capacities.items ≡ l.fn.capacities.items ++ map (λ (link : LinkCap). link.bandwidth) (take l.link-index l.links)
