use Rattle.std.proofs.Common.{◌+◌, ◌≤◌, length}
use Rattle.sg_paths.specs.Trail.{HasPlaces, IsSettledAt, LeadsBack}
use Rattle.sg_paths.specs.Reach.{IsRoomy}
use Rattle.sg_paths.proofs.StateLemmas.{IsUnderWay}
use Rattle.sg_paths.proofs.WorkLemmas.{work}
use Rattle.sg_paths.proofs.least.find.Given as goal

abbrev pub invariant-settling : goal.invariant-settling
invariant-settling l = record {
  state : IsUnderWay l.routes l.to l.reach.settled.items l.reach.ahead (l.rank + 1);
  root : IsSettledAt l.reach.settled.items 0 l.to;
  back : LeadsBack l.reach.settled.items;
  places : HasPlaces l.reach.settled.items l.reach.places.items;
  fits : length l.reach.settled.items ≤ length l.reach.places.items;
  roomy : IsRoomy l.routes (length l.fn.reach.places.items) l.reach;
}

abbrev pub decreases-settling : goal.decreases-settling
decreases-settling l = work l.routes l.reach.settled.items l.reach.ahead
