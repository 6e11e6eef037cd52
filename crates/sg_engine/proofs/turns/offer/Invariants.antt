use Rattle.std.proofs.Common.{◌≡◌}
use Rattle.std.specs.Prelude.{All}
use Rattle.sg_actor.specs.Seats.{KeepsLimits, seat_views}
use Rattle.sg_kernel_calls.specs.World.{extent}
use Rattle.sg_engine.specs.Run.{zip_with, inboxes}
use Rattle.sg_engine.specs.kept.SeatRules.{with_answer}
use Rattle.sg_engine.proofs.Merging.{merged}
use Rattle.sg_engine.proofs.Queues.{last_id}
use Rattle.sg_engine.proofs.turns.offer.Given as goal

abbrev pub invariant-loop-actor : goal.invariant-loop-actor
invariant-loop-actor g l =
    let old = seat_views g.A.Actor.mind l.fn.seats in
    let now = seat_views g.A.Actor.mind l.seats in
    record {
      with_answer : now ≡ merged (last_id l.queue l.actor-index) (zip_with with_answer old (inboxes l.kernel.core)) old;
      limited : All (KeepsLimits (extent l.kernel.setup)) now;
    }
