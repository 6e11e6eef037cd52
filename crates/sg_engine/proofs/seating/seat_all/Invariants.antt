use Rattle.std.proofs.Common.{◌≡◌, ◌+◌, ◌≤◌, length, None, take, vec_capacity, vec_len}
use Rattle.std.specs.List.{count_by}
use Rattle.std.specs.Prelude.{All}
use Rattle.sg_actor.specs.Seats.{seat_views}
use Rattle.sg_platform_rows.specs.Deployment.{extent_of, starts}
use Rattle.sg_engine.specs.kept.Listed.{minds_from}
use Rattle.sg_engine.specs.kept.SeatRules.{minds_of, IsSeated}
use Rattle.sg_engine.proofs.Crews.{IsFront}
use Rattle.sg_engine.proofs.seating.seat_all.Given as goal

abbrev pub invariant-loop-i : goal.invariant-loop-i
invariant-loop-i g l =
    let places = seat_views (λ b. (goal.Actor-dyn g (b.vtable, b.value)).mind b.value) l.seats.items in
    record {
      blank : All (λ b. (goal.Actor-dyn g (b.vtable, b.value)).mind b.value ≡ None) l.crew.items;
      front : IsFront l.fn.crew.items l.crew.items;
      taken : length l.crew.items + count_by starts (take l.i l.rows) ≡ length l.fn.crew.items;
      room : length l.rows ≤ vec_capacity l.seats;
      used : vec_len l.seats ≡ l.i;
      minds : minds_of places ≡ minds_from 1 (take l.i l.rows);
      seated : All (IsSeated (extent_of l.deployment)) places;
    }
