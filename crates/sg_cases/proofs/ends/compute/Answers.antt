use Rattle.std.proofs.Common.{length, ap, arith}
use Rattle.sg_activity.specs.Doing.{Doing}
use Rattle.sg_cases.proofs.ends.compute.Goals as goal

pub start_exec-serial-requires-clause-start : goal.start_exec-serial-requires-clause-start
start_exec-serial-requires-clause-start c = record {
  room = omega (arith, c.in_ok-reserve.ensures.room);
  few = omega (arith, c.requires.few, ap (λ (d : Doing). length d.under.tasks) c.reserve.ensures.kept);
}
