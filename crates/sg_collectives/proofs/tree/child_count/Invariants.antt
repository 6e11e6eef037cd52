use Rattle.std.proofs.Common.{◌≡◌, ◌*◌, ◌-◌, ◌^◌, ◌≤◌}
use Rattle.sg_collectives.proofs.TreeLemmas.{IsCounted}
use Rattle.sg_collectives.proofs.tree.child_count.Given as goal

abbrev pub invariant-loop-distance : goal.invariant-loop-distance
invariant-loop-distance l = record {
  power : l.distance ≡ 2 ^ l.count;
  few : l.distance ≤ 2 * l.end;
  counted : IsCounted l.at l.end l.count;
}

abbrev pub decreases-loop-distance : goal.decreases-loop-distance
decreases-loop-distance l = 2 * l.end - l.distance
