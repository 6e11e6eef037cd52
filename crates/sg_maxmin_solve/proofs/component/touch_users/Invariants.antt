use Rattle.std.proofs.Common.{◌≡◌, ◌+◌, ◌<◌, ℕ, Bool, IsTrue, length, slice_index}
use Rattle.sg_maxmin.specs.Chained.{users_on}
use Rattle.sg_maxmin.specs.Sharing.{uses_at}
use Rattle.sg_maxmin.specs.Walk.{next_on, user_of, left_from}
use Rattle.sg_maxmin.proofs.Walked.{IsWalk}
use Rattle.sg_base.specs.MarkSet.{is_in}
use Rattle.sg_maxmin_solve.specs.Component.{Passes, RowPasses, Spreads, StaysWithin, touched_uses}
use Rattle.sg_maxmin_solve.proofs.component.touch_users.Given as goal

abbrev pub invariant-loop-at : goal.invariant-loop-at
invariant-loop-at g l = (k : ℕ) × record {
  walk : IsWalk next_on user_of l.system.uses (users_on l.system.users l.resource) k l.at;
  spreads : Spreads l.system l.fn.component l.component;
  done : (i : ℕ) → i < k → IsTrue (is_in (slice_index (users_on l.system.users l.resource) i) l.component.touched.members);
  least : (p q : ℕ → Bool) → Passes p q (uses_at l.system.slots) → RowPasses p (users_on l.system.users l.resource) → StaysWithin p q l.fn.component l.component;
  looks : l.steps + touched_uses l.system l.fn.component ≡ l.fn.steps + touched_uses l.system l.component + k;
}

abbrev pub decreases-loop-at : goal.decreases-loop-at
decreases-loop-at g l = left_from (length l.system.uses) next_on l.system.uses l.at
