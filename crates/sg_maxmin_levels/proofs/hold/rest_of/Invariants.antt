use Rattle.std.proofs.Common.{◌≡◌, ◌+◌, ◌-◌, ◌≤◌, ℕ, length, take, slice_index}
use Rattle.sg_maxmin.specs.Chained.{users_on}
use Rattle.sg_maxmin.specs.Walk.{next_on, user_of, left_from}
use Rattle.sg_maxmin.specs.Numbered.{below_at, row_taken, row_waiting}
use Rattle.sg_maxmin.proofs.Walked.{IsWalk}
use Rattle.sg_maxmin_levels.proofs.Passes.{WaitFirst}
use Rattle.sg_maxmin_levels.proofs.hold.rest_of.Given as goal

abbrev pub invariant-loop-at : goal.invariant-loop-at
invariant-loop-at g l = (k : ℕ) × record {
  walk : IsWalk next_on user_of l.system.uses (users_on l.system.users l.resource) k l.at;
  left : l.rest.left ≡ slice_index l.system.capacities l.resource - row_taken l.system.slots (below_at l.levels l.low) (take k (users_on l.system.users l.resource));
  waiting : l.rest.waiting ≡ row_waiting l.system.slots (below_at l.levels l.low) (take k (users_on l.system.users l.resource));
  least : WaitFirst l.levels l.low (users_on l.system.users l.resource) k l.rest.least;
  users : l.rest.users ≡ k;
  few : l.rest.users ≤ l.looks;
  looks : l.steps ≡ l.fn.steps + k;
}

abbrev pub decreases-loop-at : goal.decreases-loop-at
decreases-loop-at g l = left_from (length l.system.uses) next_on l.system.uses l.at
