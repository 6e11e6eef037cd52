use Rattle.std.proofs.Common.{◌≡◌, ℕ, ◌<◌, Some, IsSome, slice_index}
use Rattle.sg_maxmin_solve.specs.Filling.{KeepsCount, StepsPartly, bound_limit, fixed_at}
use Rattle.sg_maxmin_solve.proofs.fixes.fix_all_bounded.Given as goal

abbrev pub invariant-loop-flow : goal.invariant-loop-flow
invariant-loop-flow g l = record {
  partly : StepsPartly l.system l.low l.fn.filling l.filling;
  agenda : l.filling.agenda ≡ l.fn.filling.agenda;
  holds : l.filling.holds.items ≡ l.fn.filling.holds.items;
  bounds : (i : ℕ) → i < l.flow-index → bound_limit l.system.slots (slice_index l.touched i) ≡ Some l.low → IsSome (fixed_at l.filling.fixed.items (slice_index l.touched i));
  count : KeepsCount l.system l.touched l.fn.filling l.filling l.fn.steps l.steps;
}
