use Rattle.std.proofs.Common.{sym, ap, ◌∙◌}
use Rattle.sg_activity.specs.Doing.{Doing}
use Rattle.sg_activity_table.specs.Kinds.{is_held}
use Rattle.sg_activity.specs.Underway.{is_kept}
use Rattle.sg_activity.specs.kept.State.{State, state_of}
use Rattle.sg_activity.proofs.Holding.{kind_found, kind_missed}
use Rattle.sg_activity.proofs.activities.Activities.is_kept.Goals as goal

pub returns-in-Some : goal.returns-in-Some
returns-in-Some c =
    let s : State = state_of c.self.inside.kept in
    c.is_held.ensures ∙ sym (kind_found s c.self.invariant.sound.are c.args.serial.0 is_held c.in-Some.field-0-0 c.in-Some.live c.in-Some.ensures) ∙ ap (λ (d : Doing). is_kept d.under c.args.serial.0) c.self.view_is

pub returns-in-None : goal.returns-in-None
returns-in-None c =
    let s : State = state_of c.self.inside.kept in
    sym (kind_missed s c.self.invariant.sound.are c.args.serial.0 is_held c.requires c.in-None.ensures) ∙ ap (λ (d : Doing). is_kept d.under c.args.serial.0) c.self.view_is
