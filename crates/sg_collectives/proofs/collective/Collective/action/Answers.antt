use Rattle.std.proofs.Common.{◌≡◌, List, Some, ap, subst, sym, ◌∙◌}
use Rattle.std.specs.List.{All}
use Rattle.sg_base.specs.declared.ids.ActorId.{ActorId}
use Rattle.sg_base.specs.Limits.{IsAction, IsActorIn}
use Rattle.sg_collectives.specs.Members.{rank_of}
use Rattle.sg_collectives.proofs.Limited.{step_keeps_limits}
use Rattle.sg_collectives.proofs.MemberLemmas.{rank_below}
use Rattle.sg_collectives.proofs.collective.Collective.action.Goals as goal

pub returns-clause-limited : goal.returns-clause-limited
returns-clause-limited c = λ extent exist has.
    let members : List ActorId = c.as_slice-list.result.now in
    let value : members ≡ c.args.members.now = c.as_slice-list.ensures.value in
    let rank_is : rank_of members c.args.actor.0 ≡ Some c.in_ok-number.number =
    ap (λ (m : List ActorId). rank_of m c.args.actor.0) value ∙ sym c.in_ok-number.ensures in
    subst (IsAction extent) (sym c.action.ensures)
    (step_keeps_limits extent members c.args.self c.in_ok-number.number c.args.place c.in_ok-step.field-0
    (rank_below members c.args.actor.0 c.in_ok-number.number rank_is) (sym c.in_ok-step.ensures)
    (subst (λ (m : List ActorId). All (IsActorIn extent) m) (sym value) exist) has)
