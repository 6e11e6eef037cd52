use Rattle.std.proofs.Common.{ℕ, length, take}
use Rattle.sg_maxmin.specs.Chained.{users_on}
use Rattle.sg_maxmin.specs.Walk.{next_on, user_of, left_from}
use Rattle.sg_maxmin.proofs.Walked.{IsWalk}
use Rattle.sg_activity.specs.kept.Bounds.{Rebounds}
use Rattle.sg_activity.proofs.capacities.update_bounds.Given as goal

abbrev pub invariant-loop-at : goal.invariant-loop-at
invariant-loop-at l = (k : ℕ) × record {
  walk : IsWalk next_on user_of l.fn.kept.index.uses (users_on l.fn.kept.index.users l.thing) k l.at;
  rebounds : Rebounds l.fn.kept l.kept (take k (users_on l.fn.kept.index.users l.thing));
}

abbrev pub decreases-loop-at : goal.decreases-loop-at
decreases-loop-at l = left_from (length l.fn.kept.index.uses) next_on l.fn.kept.index.uses l.at
