-- What contracts see of a slot, and what they see after the turns of a scheduling round.
use Rattle.std.specs.Prelude.{Bool, IsTrue, IfSome, Option, Some, None, IsSome, List, map, if◌then◌else◌}
use Rattle.std.specs.Option.{option_and_then}
use Rattle.sg_base.specs.declared.call.Answer.{Answer}
use Rattle.sg_base.specs.declared.call.Call.{Call}
use Rattle.sg_base.specs.Limits.{Extent, IsAnswer, IsCall}
use Rattle.sg_base.specs.Mind.{Mind, IsMind}
use Rattle.sg_base.specs.Turn.{turn}
use Rattle.sg_actor.specs.declared.seat.Seat.{Seat}

pub record SeatView : Type 0 where
  pub mind : Option Mind
  pub inbox : Answer
  pub outbox : Call
  pub ready : Bool

-- what contracts see of a slot, if this gives the minds of actors: no mind if the slot is empty
abbrev pub seat_view : {A : Type 0} → (A → Option Mind) → Seat A → SeatView
seat_view mind_in seat = record { mind = option_and_then mind_in seat.actor; inbox = seat.inbox; outbox = seat.outbox; ready = seat.ready }

-- the same of each slot
abbrev pub seat_views : {A : Type 0} → (A → Option Mind) → List (Seat A) → List SeatView
seat_views mind_in seats = map (seat_view mind_in) seats

-- the slot after the turn of its actor on its inbox
abbrev pub with_turn : SeatView → Option Mind → SeatView
with_turn seat None = seat
with_turn seat (Some mind) = let t = turn mind seat.inbox in record seat { mind = Some t.mind; outbox = t.call }

-- the slot after the turns of a scheduling round: after a turn if it is ready, and else unchanged
abbrev pub after : SeatView → SeatView
after seat = if seat.ready then with_turn seat seat.mind else seat

-- one that is ready has an actor that isn't blank
abbrev pub CanTurn : SeatView → Type 0
CanTurn seat = IsTrue seat.ready → IsSome seat.mind

-- the mind, the inbox and the outbox keep to the limits, and what they name exists
abbrev pub KeepsLimits : Extent → SeatView → Type 0
KeepsLimits extent seat = IfSome seat.mind (IsMind extent) × IsAnswer extent seat.inbox × IsCall extent seat.outbox
