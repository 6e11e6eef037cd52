use Rattle.std.proofs.Common.{◌≤◌, length, drop}
use Rattle.sg_route.specs.kept.Index.{ChildrenFrom}
use Rattle.sg_route.proofs.spokes.index_of.Given as goal

abbrev pub invariant-loop-left : goal.invariant-loop-left
invariant-loop-left l = record {
  within : l.left ≤ length l.rows;
  index : ChildrenFrom l.left l.at (drop l.left l.rows);
}

abbrev pub decreases-loop-left : goal.decreases-loop-left
decreases-loop-left l = l.left
