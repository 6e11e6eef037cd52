use Rattle.std.proofs.Common.{◌≡◌, ℕ, ◌<◌, ◌≤◌, Some, length, slice_index}
use Rattle.sg_maxmin.specs.Chained.{users_on}
use Rattle.sg_maxmin_solve.specs.Filling.{AreFixed, KeepsHolds, StepsPartly, fixed_at}
use Rattle.sg_maxmin_solve.specs.Holds.{CountsOnce, MayHold}
use Rattle.sg_maxmin_solve.proofs.fixes.fix_each.Given as goal

abbrev pub invariant-loop-k : goal.invariant-loop-k
invariant-loop-k g l = record {
  partly : StepsPartly l.system l.low.level l.fn.filling l.filling;
  on : (i : ℕ) → i < l.k → slice_index l.fn.filling.levels.items (slice_index l.reached i) ≡ l.low.level → AreFixed (users_on l.system.users (slice_index l.reached i)) l.filling;
  others : KeepsHolds l.reached l.fn.filling l.filling;
  may : (c : ℕ) → MayHold l.low.level (slice_index l.fn.filling.levels.items c) (fixed_at l.fn.filling.holds.items c) (fixed_at l.filling.holds.items c);
  taken : (i : ℕ) → i < l.k → slice_index l.fn.filling.levels.items (slice_index l.reached i) ≡ l.low.level → 0 < slice_index l.fn.filling.waiting.items (slice_index l.reached i) → fixed_at l.filling.holds.items (slice_index l.reached i) ≡ Some l.low.level;
  rest : (i : ℕ) → l.k ≤ i → i < length l.reached → fixed_at l.filling.holds.items (slice_index l.reached i) ≡ fixed_at l.fn.filling.holds.items (slice_index l.reached i);
  count : CountsOnce l.system l.touched l.reached l.fn.filling l.filling l.fn.steps l.steps;
}
