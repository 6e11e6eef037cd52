use Rattle.std.proofs.Common.{◌≡◌, map, take, vec_capacity}
use Rattle.sg_actor.specs.Seats.{seat_views}
use Rattle.sg_engine.specs.kept.CallList.{call_list}
use Rattle.sg_engine.specs.kept.SeatRules.{call_in, at_rest}
use Rattle.sg_engine.proofs.Merging.{merged}
use Rattle.sg_engine.proofs.Queues.{last_id}
use Rattle.sg_engine.proofs.turns.collect.Given as goal

abbrev pub invariant-loop-actor : goal.invariant-loop-actor
invariant-loop-actor g l =
    let old = seat_views g.A.Actor.mind l.fn.seats in
    let done = last_id l.queue l.actor-index in
    record {
      at_rest : seat_views g.A.Actor.mind l.seats ≡ merged done (map at_rest old) old;
      calls : l.calls.items ≡ call_list 1 (take done (map call_in old));
      room : vec_capacity l.calls ≡ vec_capacity l.fn.calls;
    }
