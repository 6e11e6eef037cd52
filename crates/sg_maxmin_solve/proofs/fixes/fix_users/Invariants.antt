use Rattle.std.proofs.Common.{◌≡◌, ◌≢◌, ◌+◌, ◌<◌, ℕ, List, IsSome, AllPairs, length, slice_index}
use Rattle.sg_maxmin.specs.Chained.{users_on}
use Rattle.sg_maxmin.specs.Walk.{next_on, user_of, left_from}
use Rattle.sg_maxmin.proofs.Walked.{IsWalk}
use Rattle.sg_maxmin_solve.specs.Component.{AreIn}
use Rattle.sg_maxmin_solve.specs.Filling.{KeepsCount, StepsPartly, fixed_at}
use Rattle.sg_maxmin_solve.proofs.fixes.fix_users.Given as goal

abbrev pub invariant-loop-at : goal.invariant-loop-at
invariant-loop-at g l = (k : ℕ) × record {
  walk : IsWalk next_on user_of l.system.uses (users_on l.system.users l.resource) k l.at;
  partly : StepsPartly l.system l.low l.fn.filling l.filling;
  agenda : l.filling.agenda ≡ l.fn.filling.agenda;
  holds : l.filling.holds.items ≡ l.fn.filling.holds.items;
  done : (i : ℕ) → i < k → IsSome (fixed_at l.filling.fixed.items (slice_index (users_on l.system.users l.resource) i));
  count : (touched : List ℕ) → AllPairs (λ a b. a ≢ b) touched → AreIn (users_on l.system.users l.resource) touched → KeepsCount l.system touched l.fn.filling l.filling (l.fn.steps + k) l.steps;
}

abbrev pub decreases-loop-at : goal.decreases-loop-at
decreases-loop-at g l = left_from (length l.system.uses) next_on l.system.uses l.at
