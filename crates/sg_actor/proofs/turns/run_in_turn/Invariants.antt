use Rattle.std.proofs.Common.{◌≡◌}
use Rattle.sg_actor.specs.Seats.{after, seat_views}
use Rattle.sg_actor.proofs.SeatLists.{partly}
use Rattle.sg_actor.proofs.turns.run_in_turn.Given as goal

abbrev pub invariant-loop-i : goal.invariant-loop-i
invariant-loop-i g l = seat_views g.A.Actor.mind l.seats ≡ partly after (seat_views g.A.Actor.mind l.fn.seats) l.i
