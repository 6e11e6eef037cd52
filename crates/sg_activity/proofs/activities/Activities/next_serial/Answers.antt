use Rattle.std.proofs.Common.{◌+◌, length, ap, arith}
use Rattle.sg_activity.specs.Doing.{Doing}
use Rattle.sg_activity.specs.kept.State.{state_of, told_at, task_of}
use Rattle.sg_activity_table.proofs.Listed.{length-listed}
use Rattle.sg_activity.proofs.activities.Activities.next_serial.Goals as goal

pub returns : goal.returns
returns c =
    let s = state_of c.self.inside.kept in
    omega (arith, ap (λ (d : Doing). length d.under.tasks) c.self.view_is, length-listed s.drawn (λ i. told_at (task_of s) s.slots (i + 1)))
