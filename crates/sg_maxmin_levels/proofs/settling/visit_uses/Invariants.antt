use Rattle.std.proofs.Common.{◌≡◌, ◌≢◌, ◌+◌, ◌<◌, ℕ, true, false, length, slice_index, take}
use Rattle.sg_base.specs.MarkSet.{is_in}
use Rattle.sg_maxmin.specs.Sharing.{uses_at}
use Rattle.sg_maxmin.specs.Walk.{next_of_flow, resource_of, left_from}
use Rattle.sg_maxmin_levels.specs.Settling.{is_active}
use Rattle.sg_maxmin_levels.specs.Kept.{KeepsLevels, Lessens, Shifts}
use Rattle.sg_maxmin.proofs.Walked.{IsWalk}
use Rattle.sg_maxmin_levels.proofs.settling.visit_uses.Given as goal

abbrev pub invariant-loop-at : goal.invariant-loop-at
invariant-loop-at g l = (k : ℕ) × record {
  walk : IsWalk next_of_flow resource_of l.system.uses (uses_at l.system.slots l.flow) k l.at;
  stays : (r : ℕ) → is_active l.kept.active.members r ≡ false → is_active l.fn.kept.active.members r ≡ false;
  done : (i : ℕ) → i < k → (r : ℕ) → is_active l.kept.active.members r ≡ false → r ≢ slice_index (uses_at l.system.slots l.flow) i;
  only : (r : ℕ) → is_active l.kept.active.members r ≡ true → is_in r (uses_at l.system.slots l.flow) ≡ false → is_active l.fn.kept.active.members r ≡ true;
  shifts : Shifts l.before l.after (take k (uses_at l.system.slots l.flow)) l.fn.kept.demands.items l.kept.demands.items;
  counts : Lessens l.after (take k (uses_at l.system.slots l.flow)) l.fn.kept l.kept;
  levels : KeepsLevels l.fn.kept l.kept;
  looks : l.steps ≡ l.fn.steps + k;
}

abbrev pub decreases-loop-at : goal.decreases-loop-at
decreases-loop-at g l = left_from (length l.system.uses) next_of_flow l.system.uses l.at
