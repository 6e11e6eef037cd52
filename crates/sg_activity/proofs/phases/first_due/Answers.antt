use Rattle.std.proofs.Common.{sym, ◌∙◌}
use Rattle.sg_heap.specs.Agenda.{key}
use Rattle.sg_activity.specs.kept.State.{State, state_of}
use Rattle.sg_activity.proofs.Due.{first_is, idle_later}
use Rattle.sg_activity.proofs.phases.first_due.Goals as goal

pub returns-in-Some-get : goal.returns-in-Some-get
returns-in-Some-get c =
    let s : State = state_of c.args.kept.now in
    first_is s c.requires.are c.in-Some.key (key c.in-Some.date c.in-Some.field-0-2) c.in-Some-get.live c.if-not-kept.false c.in-Some.ensures.first c.if-date-kept.true (sym c.get.ensures ∙ c.in-Some-get.is)

pub returns-in_default : goal.returns-in_default
returns-in_default c =
    let s : State = state_of c.args.kept.now in
    idle_later s c.requires.are c.in-Some.key (key c.in-Some.date c.in-Some.field-0-2) c.in-Some.ensures.first c.if-date-kept.false
