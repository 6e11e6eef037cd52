use Rattle.std.proofs.Common.{◌≡◌, ℕ, None, length, slice_index}
use Rattle.sg_maxmin.specs.Numbered.{level_at}
use Rattle.sg_maxmin_levels.proofs.levels.Levels.new.Given as goal

abbrev pub invariant-loop-resource : goal.invariant-loop-resource
invariant-loop-resource l = record {
  holds : (i : ℕ) → level_at l.holds.items i ≡ None;
  demands : (i : ℕ) → slice_index l.demands.items i ≡ 0;
  holds_len : length l.holds.items ≡ l._resource;
  counts : (i : ℕ) → slice_index l.counts.items i ≡ 0;
  demands_len : length l.demands.items ≡ l._resource;
  counts_len : length l.counts.items ≡ l._resource;
}
