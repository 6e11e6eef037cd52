use Rattle.std.proofs.Common.{ℕ, length, take}
use Rattle.sg_maxmin.specs.Chained.{users_on}
use Rattle.sg_maxmin.specs.Walk.{next_on, user_of, left_from}
use Rattle.sg_maxmin.proofs.Walked.{IsWalk}
use Rattle.sg_activity.specs.kept.Hits.{AreLooked}
use Rattle.sg_activity.specs.kept.State.{state_of, ways_of}
use Rattle.sg_activity.proofs.switches.update_hits.Given as goal

abbrev pub invariant-loop-at : goal.invariant-loop-at
invariant-loop-at l = (k : ℕ) × record {
  walk : IsWalk next_on user_of l.kept.index.uses (users_on l.kept.index.users l.thing) k l.at;
  looked : AreLooked (state_of l.kept).on l.kept.lives.slots (ways_of l.kept) l.fn.hits l.hits (take k (users_on l.kept.index.users l.thing));
}

abbrev pub decreases-loop-at : goal.decreases-loop-at
decreases-loop-at l = left_from (length l.kept.index.uses) next_on l.kept.index.uses l.at
