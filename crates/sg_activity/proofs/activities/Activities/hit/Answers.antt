use Rattle.std.proofs.Common.{◌≡◌, [], subst}
use Rattle.sg_heap.specs.Agenda.{key}
use Rattle.sg_activity.specs.Doing.{Doing, IsHit}
use Rattle.sg_activity.specs.Underway.{hits}
use Rattle.sg_activity.specs.kept.State.{State, state_of}
use Rattle.sg_activity.proofs.Struck.{hit_told, none_hit}
use Rattle.sg_activity.proofs.activities.Activities.hit.Goals as goal

pub returns : goal.returns
returns c =
    let kept = c.self.inside.kept in
    let s : State = state_of kept in
    let told = hit_told s c.self.invariant.sound.are c.self.inside.hits c.self.invariant.hit c.in_ok-serial.field-0-0 (key c.in_ok-serial.field-0-1 c.in_ok-serial.serial) c.in_ok-serial.ensures.first kept.room in
    subst (λ (d : Doing). IsHit d c.in_ok-serial.serial.0) c.self.view_is
    (record { rest = told.rest; first = told.first; task = told.task; at = told.at; from = told.from; to = told.to })

pub returns-in_err-serial : goal.returns-in_err-serial
returns-in_err-serial c =
    let s : State = state_of c.self.inside.kept in
    rw c.from_residual.ensures (subst (λ (d : Doing). hits d.under ≡ []) c.self.view_is (none_hit s c.self.invariant.sound.are c.self.inside.hits c.self.invariant.hit c.in_err-serial.ensures.none))
