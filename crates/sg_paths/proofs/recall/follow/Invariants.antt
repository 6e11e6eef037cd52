use Rattle.std.proofs.Common.{◌*◌, ◌≤◌, length}
use Rattle.sg_paths.specs.Reach.{IsRoomy}
use Rattle.sg_paths.proofs.TreeLemmas.{IsBegun}
use Rattle.sg_paths.proofs.recall.follow.Given as goal

abbrev pub invariant-following : goal.invariant-following
invariant-following l = record {
  begun : IsBegun l.routes l.from l.at l.to l.reach.best.items;
  few : length l.reach.best.items ≤ l.hop * l.reach.most;
  roomy : IsRoomy l.routes (length l.fn.reach.places.items) l.reach;
}
