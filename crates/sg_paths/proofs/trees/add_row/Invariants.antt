use Rattle.std.proofs.Common.{◌≡◌, ◌+◌, length, vec_capacity}
use Rattle.sg_paths.specs.Trees.{StayOnward}
use Rattle.sg_paths.proofs.trees.add_row.Given as goal

abbrev pub invariant-adding : goal.invariant-adding
invariant-adding l = record {
  stay : StayOnward l.initial.hops.items l.hops.items;
  count : length l.hops.items ≡ length l.initial.hops.items + l._column;
  capacity : vec_capacity l.hops ≡ vec_capacity l.initial.hops;
}
