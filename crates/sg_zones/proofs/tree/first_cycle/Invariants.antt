use Rattle.std.proofs.Common.{◌≡◌, drop}
use Rattle.sg_zones.specs.Faults.{ancestor_fault, first_along}
use Rattle.sg_zones.specs.declared.fault.ZoneFault.TheVariants.{ParentCycle}
use Rattle.sg_zones.proofs.tree.first_cycle.Given as goal

abbrev pub invariant-loop-i : goal.invariant-loop-i
invariant-loop-i l = first_along (ancestor_fault ParentCycle) 0 l.ancestors ≡ first_along (ancestor_fault ParentCycle) l.i (drop l.i l.ancestors)
