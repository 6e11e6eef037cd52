use Rattle.std.proofs.Common.{◌*◌, ◌+◌, ◌≤◌, ◌≡◌, ℕ, ◌<◌, length, slice_index}
use Rattle.sg_base.specs.MarkSet.{is_in}
use Rattle.sg_maxmin.specs.Fixing.{steps_from, unfixed}
use Rattle.sg_maxmin_solve.specs.Dates.{AreDated}
use Rattle.sg_maxmin.specs.Numbered.{flow_in}
use Rattle.sg_maxmin_solve.specs.Filling.{AreCounted, AreLevels, HasPlaces, IsFloor, KeepsFixed, KeepsHolds, fixed_at, flows_at, unfixed_bounds, unfixed_uses}
use Rattle.sg_maxmin_solve.specs.Holds.{AreNoted, AreUnder, untaken}
use Rattle.sg_maxmin_solve.proofs.steps.fill_steps.Given as goal

abbrev pub invariant-loop-n : goal.invariant-loop-n
invariant-loop-n g l = record {
  places : HasPlaces l.system l.filling;
  kept : KeepsFixed l.fn.filling l.filling;
  holds_kept : KeepsHolds l.reached l.fn.filling l.filling;
  noted : AreNoted l.system l.reached l.filling;
  under : AreUnder l.system l.touched l.filling;
  fixed_are : (i : ℕ) → i < length l.touched → steps_from l.n l.system.capacities (flows_at l.system.slots l.touched) unfixed (flow_in l.system.slots (slice_index l.touched i)) ≡ fixed_at l.filling.fixed.items (slice_index l.touched i);
  counted : AreCounted l.system l.filling.fixed.items l.touched l.filling.left.items l.filling.waiting.items (λ c. is_in c l.reached);
  levels : AreLevels l.reached l.filling;
  dated : AreDated l.reached l.filling;
  floor : IsFloor l.floor (unfixed_bounds l.system.slots l.filling.fixed.items l.touched);
  looks : l.steps + 2 * unfixed_uses l.system.slots l.filling.fixed.items l.touched + untaken l.system l.reached l.filling ≤ l.fn.steps + 2 * unfixed_uses l.system.slots l.fn.filling.fixed.items l.touched + untaken l.system l.reached l.fn.filling;
}
