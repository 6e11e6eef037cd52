use Rattle.std.proofs.Common.{◌≡◌, drop}
use Rattle.sg_zones.specs.Faults.{first_along, spoke_gateway_fault}
use Rattle.sg_zones.proofs.gateways.first_gateway.Given as goal

abbrev pub invariant-loop-i : goal.invariant-loop-i
invariant-loop-i l = first_along (spoke_gateway_fault l.zones) 0 l.rows ≡ first_along (spoke_gateway_fault l.zones) l.i (drop l.i l.rows)
