use Rattle.std.proofs.Common.{◌≡◌, ◌-◌, ◌<◌, ◌≤◌, length}
use Rattle.sg_paths.specs.Ahead.{EntersFrom}
use Rattle.sg_paths.specs.Arrivals.{to_at}
use Rattle.sg_paths.proofs.ahead.enter.Given as goal

abbrev pub invariant-loop-next : goal.invariant-loop-next
invariant-loop-next l = record {
  within : l.next ≤ length l.routes;
  here : 0 < l.next → to_at l.routes (l.next - 1) ≡ l.point;
  entered : EntersFrom l.routes l.known.settled.now.items l.point l.next l.mark l.fn.ahead l.ahead;
}

abbrev pub decreases-loop-next : goal.decreases-loop-next
decreases-loop-next l = l.next
