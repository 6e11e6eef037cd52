use Rattle.std.proofs.Common.{◌≤◌}
use Rattle.sg_paths.specs.Trees.{TakeTree}
use Rattle.sg_paths.proofs.trees.write_hops.Given as goal

abbrev pub invariant-writing : goal.invariant-writing
invariant-writing l = record {
  take : TakeTree l.settled l.to l.initial.hops.items l.hops.items;
  above : 1 ≤ l.k;
}
