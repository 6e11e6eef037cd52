use Rattle.std.proofs.Common.{All, take}
use Rattle.sg_actor.specs.Seats.{CanTurn, seat_view}
use Rattle.sg_cases.proofs.rounds.are_cast.Given as goal

abbrev pub invariant-loop-seat : goal.invariant-loop-seat
invariant-loop-seat g l = All (λ s. CanTurn (seat_view (λ b. (goal.Actor-dyn g (b.vtable, b.value)).mind b.value) s)) (take l.seat-index l.seats)
