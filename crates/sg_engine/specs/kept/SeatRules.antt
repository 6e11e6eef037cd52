-- The slots of actors, from one scheduling round to the next.
use Rattle.std.specs.Prelude.{◌≡◌, ◌<◌, ℕ, IsTrue, true, false, List, length, map, slice_index_or, Option, None, Some, if◌then◌else◌}
use Rattle.std.specs.Option.{is_some}
use Rattle.sg_base.specs.declared.call.Answer.{Answer}
use Rattle.sg_base.specs.declared.call.Call.{Call}
use Rattle.sg_base.specs.Limits.{Extent}
use Rattle.sg_base.specs.Mind.{Mind}
use Rattle.sg_actor.specs.Seats.{SeatView, KeepsLimits}
use Rattle.sg_actor_states.specs.Actors.{is_ready, not_suspended}
use Rattle.sg_actor_states.specs.declared.state.State.TheVariants.{Ended}
use Rattle.sg_actor_states.specs.declared.state.Actor.{Actor}

-- what the actor of a place has in mind
abbrev pub mind_in : SeatView → Option Mind
mind_in place = place.mind

abbrev pub minds_of : List SeatView → List (Option Mind)
minds_of places = map mind_in places

-- between scheduling rounds all that is in a slot keeps to the limits, and its actor isn't to take
-- a turn
pub record IsSeated (extent : Extent) (place : SeatView) : Type 0 where
  pub limited : KeepsLimits extent place
  pub rests : place.ready ≡ false

-- only whose actor is ready takes a turn
abbrev pub AreQueued : List SeatView → List Actor → Type 0
AreQueued places actors = (j : ℕ) (place : SeatView) → j < length places → IsTrue (slice_index_or places j place).ready → IsTrue (is_ready (slice_index_or actors j (not_suspended Ended)))

-- the place with an answer, if there is one and its actor has begun, on which that is to take a turn
abbrev pub with_answer : SeatView → Option Answer → SeatView
with_answer place None = place
with_answer place (Some answer) = if is_some place.mind then record place { inbox = answer; ready = true } else place

-- the call that its actor has made in its turn, if it took one
abbrev pub call_in : SeatView → Option Call
call_in place = if place.ready then Some place.outbox else None

-- the slot after the scheduling round
abbrev pub at_rest : SeatView → SeatView
at_rest place = record place { ready = false }
