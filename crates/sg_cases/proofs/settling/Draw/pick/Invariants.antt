use Rattle.std.proofs.Common.{◌≡◌}
use Rattle.sg_cases.proofs.settling.Draw.pick.Given as goal

abbrev pub invariant-loop-use : goal.invariant-loop-use
invariant-loop-use l = l.self.picked.room ≡ l.fn.self.picked.room
