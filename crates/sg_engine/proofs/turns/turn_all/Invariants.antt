use Rattle.std.proofs.Common.{◌≡◌, ◌-◌, ◌≤◌, length, map}
use Rattle.sg_actor.specs.Seats.{after, seat_views}
use Rattle.sg_engine.proofs.Merging.{merged}
use Rattle.sg_engine.proofs.Queues.{last_id}
use Rattle.sg_engine.proofs.turns.turn_all.Given as goal

abbrev pub invariant-loop-from : goal.invariant-loop-from
invariant-loop-from g l =
    let old = seat_views (λ b. (goal.Actor-dyn g (b.vtable, b.value)).mind b.value) l.fn.seats in
    record {
      turned : seat_views (λ b. (goal.Actor-dyn g (b.vtable, b.value)).mind b.value) l.seats ≡ merged (last_id l.queue l.from) (map after old) old;
      within : l.from ≤ length l.queue;
    }

abbrev pub decreases-loop-from : goal.decreases-loop-from
decreases-loop-from g l = length l.queue - l.from
