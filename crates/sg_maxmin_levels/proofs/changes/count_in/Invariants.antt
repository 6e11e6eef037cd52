use Rattle.std.proofs.Common.{◌≡◌, ◌≤◌, ◌+◌, ℕ, length, slice_index, take}
use Rattle.sg_maxmin.specs.Chained.{times}
use Rattle.sg_maxmin_levels.proofs.changes.count_in.Given as goal

abbrev pub invariant-loop-resource : goal.invariant-loop-resource
invariant-loop-resource l = record {
  places : length l.counts.items ≡ length l.fn.counts.items;
  most : (c : ℕ) → slice_index l.counts.items c ≤ slice_index l.fn.counts.items c + times c (take l.resource-index l.uses);
}
