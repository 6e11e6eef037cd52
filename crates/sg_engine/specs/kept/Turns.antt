-- What the turns of a scheduling round need, and what they lead to.
use Rattle.std.specs.Prelude.{◌≡◌, ◌≤◌, Option, List, length, All, vec_capacity}
use Rattle.std.specs.Global.{Vec}
use Rattle.sg_base.specs.Limits.{IsCall}
use Rattle.sg_base.specs.Mind.{Mind}
use Rattle.sg_actor.specs.Seats.{seat_views}
use Rattle.sg_actor.specs.declared.seat.Seat.{Seat}
use Rattle.sg_kernel_calls.specs.Known.{Known}
use Rattle.sg_kernel_calls.specs.World.{extent}
use Rattle.sg_engine.specs.declared.actor_call.ActorCall.{ActorCall}
use Rattle.sg_engine.specs.kept.CallList.{call_list}
use Rattle.sg_engine.specs.kept.SeatRules.{minds_of, IsSeated}
use Rattle.sg_engine.specs.Run.{zip_with, mind_after, call_after, inboxes}

-- there is a slot for each actor, in which all is at rest, and room for a call of each
pub record CanTakeTurns {A : Type 0} (mind : A → Option Mind) (kernel : Known) (seats : List (Seat A)) (calls : Vec ActorCall) : Type 0 where
  pub number : length seats ≡ length kernel.core.actors
  pub seated : All (IsSeated (extent kernel.setup)) (seat_views mind seats)
  pub room : length seats ≤ vec_capacity calls

-- Each actor that has an answer has taken its turn on it. Their calls replace those before, by rising actor, and keep
-- to the limits; in the slots all is at rest again.
pub record TakesTurns {A : Type 0} (mind : A → Option Mind) (kernel : Known) (old new : List (Seat A)) (had has : Vec ActorCall) : Type 0 where
  pub seated : All (IsSeated (extent kernel.setup)) (seat_views mind new)
  pub minds : minds_of (seat_views mind new) ≡ zip_with mind_after (minds_of (seat_views mind old)) (inboxes kernel.core)
  pub calls : has.items ≡ call_list 1 (zip_with call_after (minds_of (seat_views mind old)) (inboxes kernel.core))
  pub limited : All (λ (made : ActorCall). IsCall (extent kernel.setup) made.call) has.items
  pub room : vec_capacity has ≡ vec_capacity had
