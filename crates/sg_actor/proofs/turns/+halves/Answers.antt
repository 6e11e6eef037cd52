use Rattle.sg_actor.specs.Seats.{CanTurn, seat_view}
use Rattle.sg_actor.proofs.SeatLists.{front_of, back_of}
use Rattle.sg_actor.proofs.turns.+halves.Goals as goal

pub run_chunks-run_halves-requires-clause-front : goal.run_chunks-run_halves-requires-clause-front
run_chunks-run_halves-requires-clause-front g t c κs within =
    front_of (seat_view g.A.Actor.mind) CanTurn c.args.seats.now c.split_at_mut-front.result.0.now c.split_at_mut-front.result.1.now c.split_at_mut-front.ensures.value c.requires.ready

pub run_chunks-run_halves-requires-clause-back : goal.run_chunks-run_halves-requires-clause-back
run_chunks-run_halves-requires-clause-back g t c κs within =
    back_of (seat_view g.A.Actor.mind) CanTurn c.args.seats.now c.split_at_mut-front.result.0.now c.split_at_mut-front.result.1.now c.split_at_mut-front.ensures.value c.requires.ready
