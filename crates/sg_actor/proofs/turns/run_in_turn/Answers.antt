use Rattle.sg_actor.specs.Seats.{after, CanTurn}
use Rattle.sg_actor.proofs.SeatLists.{one_more, may}
use Rattle.sg_actor.proofs.turns.run_in_turn.Goals as goal

pub run_seat-requires : goal.run_seat-requires
run_seat-requires g c = may _ after CanTurn c.args.seats.now c.loop-i.seats c.loop-i.i c.index-seats-i.result c.requires c.loop-i-test.true c.loop-i.auto.seats c.loop-i.invariant

pub loop-i-preserved : goal.loop-i-preserved
loop-i-preserved g c = one_more _ after c.args.seats.now c.loop-i.seats c.loop-i.i c.index-seats-i.result c.run_seat.new.seat c.loop-i-test.true c.loop-i.auto.seats c.loop-i.invariant c.run_seat.ensures
