use Rattle.std.proofs.Common.{◌-◌, ◌∙◌, ap, arith, get_or, length, subst, sym}
use Rattle.std.proofs.lemmas.List.{length-map}
use Rattle.std.specs.Prelude.{IfSome}
use Rattle.sg_base.specs.Mind.{IsMind}
use Rattle.sg_actor.specs.Seats.{seat_view}
use Rattle.sg_platform_rows.specs.Deployment.{extent_of}
use Rattle.sg_engine.specs.kept.SeatRules.{IsSeated}
use Rattle.sg_engine.proofs.Castings.{function_is, function_of}
use Rattle.sg_engine.proofs.Creating.{begins_at, seats_with}
use Rattle.sg_engine.proofs.Merging.{all_at}
use Rattle.sg_engine.proofs.seating.take_seat.Goals as goal

pub returns-clause-minds : goal.returns-clause-minds
returns-clause-minds g c =
    begins_at _ c.args.plan.now.deployment.now c.args.seats.now c.args.actor.0 _ c.index-actors-place.result c.requires.actor.0 c.requires.actor.1 (c.index-actors-place.is ∙ ap (λ l. get_or l (c.args.actor.0 - 1) c.index-actors-place.result) c.actors.ensures.rows) c.in_ok-context.ensures.mind

pub returns-clause-seats : goal.returns-clause-seats
returns-clause-seats g c =
    let deployed = c.args.plan.now.deployment.now in
    let extent = extent_of deployed in
    let place = c.args.actor.0 - 1 in
    let row = c.index-actors-place.result in
    let mine = function_of extent deployed.actors c.actors.result.now place row (omega (arith, c.requires.actor.0, c.requires.actor.1, ap length c.actors.ensures.rows)) c.index-actors-place.is c.actors.ensures.rows c.actors.ensures.kept.functions in
    let was : IsSeated extent (seat_view (λ b. (goal.Actor-dyn g (b.vtable, b.value)).mind b.value) (get_or c.args.seats.now place c.index-seats-place.result)) =
    all_at (seat_view (λ b. (goal.Actor-dyn g (b.vtable, b.value)).mind b.value)) (IsSeated extent) c.args.seats.now place c.index-seats-place.result (omega (arith, c.requires.actor.0, c.requires.actor.1, c.requires.seats.number, length-map c.args.seats.now (seat_view (λ b. (goal.Actor-dyn g (b.vtable, b.value)).mind b.value)))) c.requires.seats.seated in
    seats_with _ deployed c.args.seats.now place _ c.requires.seats (record {
      limited = (subst (λ o. IfSome o (IsMind extent)) (sym c.in_ok-context.ensures.mind) (c.roles_keep_limits.ensures extent _ (function_is extent c.args.actor.0 row.function c.requires.actor.0 c.requires.actor.1 mine)), was.limited.1, was.limited.2);
      rests = was.rests;
    })
