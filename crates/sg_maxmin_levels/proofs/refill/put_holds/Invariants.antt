use Rattle.std.proofs.Common.{take}
use Rattle.sg_maxmin_levels.specs.Kept.{AreHeldAt}
use Rattle.sg_maxmin_levels.proofs.refill.put_holds.Given as goal

abbrev pub invariant-loop-resource : goal.invariant-loop-resource
invariant-loop-resource l = AreHeldAt (take l.resource-index l.resources) l.holds l.fn.kept l.kept
