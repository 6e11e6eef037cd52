use Rattle.std.proofs.Common.{◌≡◌, ◌<◌, ◌≤◌, ℕ, length, vec_capacity, get_or}
use Rattle.sg_paths.specs.Arrivals.{to_at, IsLast}
use Rattle.sg_paths.proofs.arrivals.arrivals_of.Given as goal

abbrev pub invariant-loop-i : goal.invariant-loop-i
invariant-loop-i l = record {
  lasts : length l.last.items ≡ l.points;
  befores : length l.before.items ≡ l.i;
  room : length l.routes ≤ vec_capacity l.before;
  last : (point : ℕ) → point < l.points → IsLast l.routes point l.i (get_or l.last.items point 0);
  before : (k : ℕ) → k < l.i → IsLast l.routes (to_at l.routes k) k (get_or l.before.items k 0);
}
