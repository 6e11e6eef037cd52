use Rattle.std.proofs.Common.{◌≡◌, ℕ, ◌≤◌, length, slice_index}
use Rattle.sg_lazy.proofs.flow_room.grow_rates.Given as goal

abbrev pub invariant-loop-number : goal.invariant-loop-number
invariant-loop-number l = record {
  rates_are : (i : ℕ) → slice_index l.rates.items i ≡ slice_index l.fn.rates.items i;
  grows : length l.fn.rates.items ≤ length l.rates.items;
  room : l._number ≤ length l.rates.items;
}
