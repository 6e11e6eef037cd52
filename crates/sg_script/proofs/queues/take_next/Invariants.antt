use Rattle.std.proofs.Common.{◌≡◌, length}
use Rattle.std.specs.List.{flat_map}
use Rattle.sg_base.specs.Limits.{Extent}
use Rattle.sg_script.specs.kept.Queues.{AreOperations, left_of}
use Rattle.sg_script.proofs.queues.take_next.Given as goal

abbrev pub invariant-loop-line : goal.invariant-loop-line
invariant-loop-line l = record {
  same : flat_map (left_of l.members l.actor.0) l.lines.items ≡ flat_map (left_of l.members l.actor.0) l.initial.lines.items;
  limited : (extent : Extent) → AreOperations extent l.initial.lines.items → AreOperations extent l.lines.items;
}

abbrev pub decreases-loop-line : goal.decreases-loop-line
decreases-loop-line l = length l.lines.items
