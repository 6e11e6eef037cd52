use Rattle.std.proofs.Common.{◌≡◌, ◌+◌, ◌-◌, length, slice_index}
use Rattle.sg_maxmin.specs.Chained.{users_on}
use Rattle.sg_maxmin_levels.proofs.RowRise.{IsOnWay}
use Rattle.sg_maxmin_levels.proofs.Passes.{IsNext}
use Rattle.sg_maxmin_levels.proofs.hold.hold_of.Given as goal

abbrev pub invariant-loop-next : goal.invariant-loop-next
invariant-loop-next g l = record {
  way : IsOnWay (slice_index l.system.capacities l.resource) l.system.slots l.levels (users_on l.system.users l.resource) l.low;
  found : IsNext l.system l.resource l.levels l.low l.left l.looks l.fn.steps (l.steps + l.fn.first.users) l.next;
  users : l.fn.first.users ≡ length (users_on l.system.users l.resource);
}

abbrev pub decreases-loop-next : goal.decreases-loop-next
decreases-loop-next g l = slice_index l.system.capacities l.resource - l.low
