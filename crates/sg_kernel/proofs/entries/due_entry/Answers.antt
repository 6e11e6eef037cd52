use Rattle.std.proofs.Common.{sym, ◌∙◌}
use Rattle.sg_kernel.proofs.Timely.{none_left, none_now}
use Rattle.sg_kernel.proofs.entries.due_entry.Goals as goal

pub returns-in_default : goal.returns-in_default
returns-in_default c = none_left c.args.fields.now c.in_default.ensures.next

pub returns-else-date : goal.returns-else-date
returns-else-date c = none_now c.args.fields.now c.in-Some.date c.requires.timely c.in-Some.ensures.next.date_is (λ same. c.if-date.false (same ∙ sym c.date.ensures))
