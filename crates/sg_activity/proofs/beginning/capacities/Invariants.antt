use Rattle.std.proofs.Common.{◌≡◌, map, take}
use Rattle.sg_activity.specs.Hosts.{offer_of}
use Rattle.sg_activity.proofs.beginning.capacities.Given as goal

abbrev pub invariant-loop-host : goal.invariant-loop-host
invariant-loop-host l = l.capacities.items ≡ map offer_of (take l.host-index l.hosts)
