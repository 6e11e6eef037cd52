use Rattle.std.proofs.Common.{ℕ, ◌+◌, ◌*◌, ◌≤◌, length, drop}
use Rattle.sg_maxmin.specs.Chained.{users_on}
use Rattle.sg_maxmin.specs.Walk.{next_on, user_of, left_from}
use Rattle.sg_maxmin_levels.specs.Kept.{IsKept, IsSettlingOn, NotesMoved, ResourceStaysWithin}
use Rattle.sg_maxmin.proofs.Walked.{IsWalk}
use Rattle.sg_maxmin_levels.proofs.settling.settle_users.Given as goal

abbrev pub invariant-loop-at : goal.invariant-loop-at
invariant-loop-at g l = (k : ℕ) × record {
  walk : IsWalk next_on user_of l.system.uses (users_on l.system.users l.resource) k l.at;
  settling : IsSettlingOn l.system l.fn.kept l.resource l.was (users_on l.system.users l.resource) → IsSettlingOn l.system l.kept l.resource l.was (drop k (users_on l.system.users l.resource));
  kept : IsKept l.system l.kept;
  moved : NotesMoved l.fn.kept l.kept;
  within : ResourceStaysWithin l.system l.resource l.fn.kept l.kept;
  looks : l.steps ≤ l.fn.steps + k + l.times * l.fn.kept.longest;
  few : l.times ≤ 2 * k;
}

abbrev pub decreases-loop-at : goal.decreases-loop-at
decreases-loop-at g l = left_from (length l.system.uses) next_on l.system.uses l.at
