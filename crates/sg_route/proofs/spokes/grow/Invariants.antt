use Rattle.std.proofs.Common.{◌≡◌, ℕ, ◌≤◌, None, length, slice_index_or}
use Rattle.sg_route.proofs.spokes.grow.Given as goal

abbrev pub invariant-loop-number : goal.invariant-loop-number
invariant-loop-number l = record {
  same : (number : ℕ) → slice_index_or l.rows.items number None ≡ slice_index_or l.fn.rows.items number None;
  long : l._number ≤ length l.rows.items;
}
