-- Who is answered when an activity ends, and with what.
use Rattle.std.specs.Prelude.{ℕ, ◌-◌, ◌==◌, ◌&&◌, Bool, true, false, Option, None, Some, if◌then◌else◌, [], slice_set}
use Rattle.sg_base.specs.declared.call.Answer.{Answer}
use Rattle.sg_base.specs.declared.call.Answer.TheVariants as answer
use Rattle.sg_base.specs.declared.call.Call.{Call}
use Rattle.sg_base.specs.declared.call.Call.TheVariants as call
use Rattle.sg_base.specs.declared.call.Msg.{Msg}
use Rattle.sg_base.specs.declared.call.Msg.TheVariants as msg
use Rattle.sg_activity.specs.Underway.{with_task}
use Rattle.sg_mailbox.specs.declared.sides.Side.{Side}
use Rattle.sg_base.specs.declared.awaits.Await.{Await}
use Rattle.sg_base.specs.declared.awaits.Party.{Party}
use Rattle.sg_base.specs.declared.awaits.Party.TheVariants.{Sender, Receiver}
use Rattle.sg_base.specs.declared.awaits.Party.TheVariants as party
use Rattle.sg_base.specs.contracts.awaits.PartyPartialEq.TheImpl as party_eq_impl
use Rattle.sg_mailbox.specs.declared.owners.How.{How}
use Rattle.sg_mailbox.specs.declared.owners.How.TheVariants as how
use Rattle.sg_mailbox.specs.declared.owners.Whose.{Whose}
use Rattle.sg_mailbox.specs.declared.owners.Whose.TheVariants.{Over, Alone, Pair}
use Rattle.sg_kernel_calls.specs.World.{Core, state_of, whose_at}
use Rattle.sg_actor_states.specs.declared.state.Blocking.{Blocking}
use Rattle.sg_actor_states.specs.Actors.{blocking_in}
use Rattle.sg_kernel_calls.specs.Steps.{Step, goes_on, and_then, replied}

-- ---- endpoints of communications
-- the rate is that of the sender; 0 stands for none
abbrev pub side_of : ℕ → ℕ → Msg → ℕ → Side
side_of actor bytes message rate =
    record { actor = record { 0 = actor }; bytes = bytes; msg = message; rate = rate }

-- an endpoint that brings nothing
abbrev pub bare_side : ℕ → Side
bare_side actor = side_of actor 0 msg.Empty 0

-- ---- who is answered when an activity ends
-- whether two endpoints of an activity are the same: sender, receiver, or the only one
abbrev pub party_eq : Party → Party → Bool
party_eq = (party_eq_impl.ghosts).eq

-- whether that is this endpoint of the activity with this id
abbrev pub awaits_side : ℕ → Party → Option Await → Bool
awaits_side serial side None = false
awaits_side serial side (Some on) = (on.serial.0 == serial) && party_eq on.party side

-- whether a call is a send or a receive that waits, whose record has the bytes
abbrev pub tells_bytes : Call → Bool
tells_bytes (call.Send mailbox bytes message rate) = true
tells_bytes (call.Recv mailbox) = true
tells_bytes other = false

-- the answer to a call, by how its activity ended: if it is done, a receive gets the message and any other call is done;
-- if it failed, the call failed
abbrev pub answer_to : How → Call → Msg → Answer
answer_to how.Done (call.Recv mailbox) message = answer.Got message
answer_to how.Done other message = answer.Done
answer_to how.Failed what message = answer.Failed

-- the actor is answered if it is blocked on this endpoint of this activity
abbrev pub answers_by : How → ℕ → Party → Side → Option Blocking → Core → Step
answers_by over serial party given None core = goes_on core []
answers_by over serial party given (Some blocking) core =
    if awaits_side serial party blocking.on
    then replied given.actor.0 blocking.what blocking.since (if tells_bytes blocking.what then given.bytes else 0) (answer_to over blocking.what given.msg) core
    else goes_on core []

-- an endpoint's actor is answered, if it is blocked on this activity; else nothing happens
abbrev pub answers_side : How → ℕ → Party → Side → Core → Step
answers_side over serial party given core = answers_by over serial party given (blocking_in (state_of core given.actor.0)) core

-- what the sender sent, for the receiver
abbrev pub for_receiver : Side → Side → Side
for_receiver sender receiver = record sender { actor = receiver.actor }

-- the answers when an activity ends: of a communication the sending endpoint is answered, and then
-- the receiving one
abbrev pub answers : How → ℕ → Whose → Core → Step
answers over serial (Alone actor) core = answers_side over serial party.Alone (bare_side actor.0) core
answers over serial (Pair sender receiver) core =
    and_then (answers_side over serial Sender sender core)
    (answers_side over serial Receiver (for_receiver sender receiver))
answers over serial other core = goes_on core []

-- the core after an activity ended: it no longer runs, and it has no waiter
abbrev pub with_over : How → ℕ → Core → Core
with_over over serial core = record core { under = with_task serial None core.under; whose = slice_set core.whose (serial - 1) (Over over) }

-- the activity with this id ends, and its waiters are answered
abbrev pub finishes : How → ℕ → Core → Step
finishes over serial core = answers over serial (whose_at core serial) (with_over over serial core)
