use Rattle.std.proofs.Common.{refl, subst}
use Rattle.std.proofs.lemmas.List.Elements.{All-map}
use Rattle.sg_actor.specs.Seats.{CanTurn, seat_view}
use Rattle.sg_actor.proofs.Blanks.{all_more, all_of}
use Rattle.sg_cases.proofs.rounds.are_cast.Goals as goal

pub loop-seat-preserved : goal.loop-seat-preserved
loop-seat-preserved g c =
    all_more (λ s. CanTurn (seat_view (λ b. (goal.Actor-dyn g (b.vtable, b.value)).mind b.value) s)) c.args.seats.now c.loop-seat.seat-index c.seat-item.result
    c.loop-seat-test.true c.loop-seat.invariant
    (subst (λ s. CanTurn (seat_view (λ b. (goal.Actor-dyn g (b.vtable, b.value)).mind b.value) s)) c.seat-item.is (c.if-not-is_cast.ensures refl))

pub returns : goal.returns
returns g c is_true =
    All-map CanTurn (seat_view (λ b. (goal.Actor-dyn g (b.vtable, b.value)).mind b.value)) c.args.seats.now
    (all_of (λ s. CanTurn (seat_view (λ b. (goal.Actor-dyn g (b.vtable, b.value)).mind b.value) s)) c.args.seats.now c.loop-seat.seat-index c.loop-seat-test.false c.loop-seat.invariant)
