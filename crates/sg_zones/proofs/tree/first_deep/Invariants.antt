use Rattle.std.proofs.Common.{◌≡◌, drop}
use Rattle.sg_zones.specs.Faults.{ancestor_fault, first_along}
use Rattle.sg_zones.specs.declared.fault.ZoneFault.TheVariants.{TooDeep}
use Rattle.sg_zones.proofs.tree.first_deep.Given as goal

abbrev pub invariant-loop-i : goal.invariant-loop-i
invariant-loop-i l = first_along (ancestor_fault TooDeep) 0 l.ancestors ≡ first_along (ancestor_fault TooDeep) l.i (drop l.i l.ancestors)
