-- The turn of an actor: from its mind and the answer that it has, its new mind and its call.
use Rattle.std.specs.Prelude.{ℕ, ◌+◌, ◌-◌, ◌%◌, ◌==◌, nat_lt, if◌then◌else◌, List, ◌∷◌, length, drop, slice_index, slice_set}
use Rattle.sg_base.specs.declared.ids.ActorId.{ActorId}
use Rattle.sg_base.specs.declared.ids.BoxId.TheVariants as box
use Rattle.sg_base.specs.declared.call.Action.{Action}
use Rattle.sg_base.specs.declared.call.Action.TheVariants as action
use Rattle.sg_base.specs.declared.call.Answer.{Answer}
use Rattle.sg_base.specs.declared.call.Answer.TheVariants as answer
use Rattle.sg_base.specs.declared.call.Msg.{Msg}
use Rattle.sg_base.specs.declared.call.Msg.TheVariants as msg
use Rattle.sg_base.specs.declared.call.Call.{Call}
use Rattle.sg_base.specs.declared.call.Call.TheVariants as call
use Rattle.sg_base.specs.Draw.{drawn, next_state}
use Rattle.sg_base.specs.Mind.{Kind, Mind, mind, replay, worker, master, churn, ended}

-- what an actor's turn gives: its state afterwards, and the call that it makes
pub record Turn : Type 0 where
  pub mind : Mind
  pub call : Call

-- the turn after which an actor has this kind and these numbers, and makes this call
abbrev pub turned : Kind → List ℕ → Call → Turn
turned kind numbers call = record { mind = mind kind numbers; call = call }

-- with the call Exit the kind becomes ended; the numbers stay
abbrev pub leaves : List ℕ → Turn
leaves numbers = turned ended numbers call.Exit

-- the identifier of the actor with this number, from 1 on
abbrev pub actor_of : ℕ → ActorId
actor_of number = record { 0 = number }

-- the call by which an actor does an action: what it sends to another, and receives from it, has a mailbox of its own
abbrev pub call_of : ActorId → Action → Call
call_of me (action.Compute flops priority) = call.Compute flops priority
call_of me (action.Sleep ns) = call.Sleep ns
call_of me (action.Send to bytes rate) = call.Send (box.Pair me to) bytes msg.Empty rate
call_of me (action.Recv from) = call.Recv (box.Pair from me)
call_of me (action.ISend to bytes rate) = call.ISend (box.Pair me to) bytes msg.Empty rate
call_of me (action.IRecv from) = call.IRecv (box.Pair from me)
call_of me action.Wait = call.Wait
call_of me (action.Lock mutex) = call.Lock mutex
call_of me (action.Unlock mutex) = call.Unlock mutex
call_of me (action.Acquire semaphore) = call.Acquire semaphore
call_of me (action.Release semaphore) = call.Release semaphore
call_of me action.Barrier = call.Barrier
call_of me (action.Create actor) = call.Create actor
call_of me (action.Join actor) = call.Join actor
call_of me (action.Kill actor) = call.Kill actor
call_of me (action.Suspend actor) = call.Suspend actor
call_of me (action.Resume actor) = call.Resume actor
call_of me action.Yield = call.Yield

-- an actor that replays does the line that it was given, ends when there is none, and else asks for the next
abbrev pub replay_turn : List ℕ → Answer → Turn
replay_turn numbers (answer.Act what) = turned replay numbers (call_of (actor_of (slice_index numbers 0)) what)
replay_turn numbers answer.NoMore = leaves numbers
replay_turn numbers other = turned replay numbers call.Ask

-- a worker receives from the mailbox under its name
abbrev pub receives : List ℕ → Turn
receives numbers = turned worker numbers (call.Recv (box.Named (actor_of (slice_index numbers 0))))

-- a worker computes a task that it received, ends at a stop, and receives again after an empty message
abbrev pub worker_got : List ℕ → Msg → Turn
worker_got numbers (msg.Task flops) = turned worker numbers (call.Compute flops 1)
worker_got numbers msg.Stop = leaves numbers
worker_got numbers msg.Empty = receives numbers

-- it does the task that it received, at priority 1, ends when it receives a stop, and else receives
abbrev pub worker_turn : List ℕ → Answer → Turn
worker_turn numbers (answer.Got message) = worker_got numbers message
worker_turn numbers other = receives numbers

-- what a master sends to its worker of this place
abbrev pub sends : List ℕ → ℕ → ℕ → Msg → Turn
sends numbers place bytes message =
    turned master (slice_set numbers 3 (slice_index numbers 3 + 1)) (call.Send (box.Named (actor_of (slice_index numbers (4 + place)))) bytes message 0)

-- a master hands its tasks to its workers in turn, then sends each of them a stop, and ends
abbrev pub master_turn : List ℕ → Turn
master_turn numbers =
    let tasks = slice_index numbers 0 in
    let next = slice_index numbers 3 in
    let workers = length numbers - 4 in
    if nat_lt next tasks then sends numbers (next % workers) (slice_index numbers 2) (msg.Task (slice_index numbers 1))
    else if nat_lt next (tasks + workers) then sends numbers (next - tasks) 0 msg.Stop
    else leaves numbers

-- the numbers of an actor that churns, with these in place of its first three
abbrev pub churned : ℕ → ℕ → ℕ → List ℕ → Call → Turn
churned state step phase numbers call = turned churn (state ∷ step ∷ phase ∷ drop 3 numbers) call

-- An actor that churns computes, sends to the next actor of the ring, receives from the one before it, and waits until
-- what it sent is there; so many times, and then it ends. What it computes and sends is drawn.
abbrev pub churn_turn : List ℕ → Turn
churn_turn numbers =
    let state = slice_index numbers 0 in
    let step = slice_index numbers 1 in
    let phase = slice_index numbers 2 in
    let me = actor_of (slice_index numbers 4) in
    if phase == 0 then
    (if step == slice_index numbers 3 then leaves numbers
    else churned (next_state state) step 1 numbers (call.Compute (1 + drawn state % 1000000000) 1))
    else if phase == 1 then churned (next_state state) step 2 numbers (call.ISend (box.Pair me (actor_of (slice_index numbers 5))) (1 + drawn state % 1000000) msg.Empty 0)
    else if phase == 2 then churned state step 3 numbers (call.Recv (box.Pair (actor_of (slice_index numbers 6)) me))
    else churned state (step + 1) 0 numbers call.Wait

-- an actor that has ended gives Exit for every answer
abbrev pub turn_of : Kind → List ℕ → Answer → Turn
turn_of replay numbers answer = replay_turn numbers answer
turn_of worker numbers answer = worker_turn numbers answer
turn_of master numbers answer = master_turn numbers
turn_of churn numbers answer = churn_turn numbers
turn_of ended numbers answer = leaves numbers

-- one turn of an actor: its mind and an answer give its next mind and its call
abbrev pub turn : Mind → Answer → Turn
turn m answer = turn_of m.kind m.numbers answer
