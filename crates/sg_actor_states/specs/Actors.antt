-- What actors do, by id from 1 on.
use Rattle.std.specs.Prelude.{◌≡◌, ℕ, ◌+◌, ◌-◌, ◌<◌, ◌≤◌, ◌==◌, ◌&&◌, not, if◌then◌else◌, Option, None, Some, List, [], ◌∷◌, length, slice_index_or, slice_set, Bool, true, false, IsTrue}
use Rattle.sg_base.specs.declared.call.Answer.{Answer}
use Rattle.sg_base.specs.declared.call.Answer.TheVariants as answer
use Rattle.sg_base.specs.declared.call.Call.{Call}
use Rattle.sg_base.specs.declared.call.Call.TheVariants as call
use Rattle.sg_base.specs.declared.ids.ActorId.{ActorId}
use Rattle.sg_actor_states.specs.declared.state.Actor.{Actor}
use Rattle.sg_actor_states.specs.declared.state.Blocking.{Blocking}
use Rattle.sg_actor_states.specs.declared.state.State.{State}
use Rattle.sg_actor_states.specs.declared.state.State.TheVariants.{Unstarted, Ready, Blocked, Ended}

-- an actor in this state that is not suspended
abbrev pub not_suspended : State → Actor
not_suspended state = record { state = state; suspended = false }

-- this actor, and what it does
abbrev pub actor_at : List Actor → ℕ → Actor
actor_at actors actor = slice_index_or actors (actor - 1) (not_suspended Ended)

-- the state of an actor: unstarted, ready, blocked or ended
abbrev pub state_at : List Actor → ℕ → State
state_at actors actor = (actor_at actors actor).state

-- this actor becomes that from now on
abbrev pub put_actor : List Actor → ℕ → Actor → List Actor
put_actor actors actor next = slice_set actors (actor - 1) next

-- it does that from now on
abbrev pub put_state : List Actor → ℕ → State → List Actor
put_state actors actor state = put_actor actors actor (record { state = state; suspended = (actor_at actors actor).suspended })

-- it is suspended from now on, or isn't any more
abbrev pub put_suspended : List Actor → ℕ → Bool → List Actor
put_suspended actors actor on = put_actor actors actor (record { state = state_at actors actor; suspended = on })

-- an actor at the beginning, by whether it starts then
abbrev pub first_actor : Bool → Actor
first_actor true = not_suspended (Ready answer.Start)
first_actor false = not_suspended Unstarted

-- ---- states
-- whether an actor has not started yet, so that a create may start it
abbrev pub is_unstarted : State → Bool
is_unstarted Unstarted = true
is_unstarted (Ready answer) = false
is_unstarted (Blocked what since on) = false
is_unstarted Ended = false

-- it has an answer
abbrev pub is_answered : State → Bool
is_answered Unstarted = false
is_answered (Ready answer) = true
is_answered (Blocked what since on) = false
is_answered Ended = false

abbrev pub is_blocked : State → Bool
is_blocked Unstarted = false
is_blocked (Ready answer) = false
is_blocked (Blocked what since on) = true
is_blocked Ended = false

-- whether an actor has ended, by its own exit or by a kill
abbrev pub is_ended : State → Bool
is_ended Unstarted = false
is_ended (Ready answer) = false
is_ended (Blocked what since on) = false
is_ended Ended = true

-- it has started and hasn't ended
abbrev pub is_alive : State → Bool
is_alive Unstarted = false
is_alive (Ready answer) = true
is_alive (Blocked what since on) = true
is_alive Ended = false

-- it is blocked until the call of another wakes it
abbrev pub is_held : State → Bool
is_held Unstarted = false
is_held (Ready answer) = false
is_held (Blocked what since None) = true
is_held (Blocked what since (Some on)) = false
is_held Ended = false

-- the answer that it has
abbrev pub answer_in : State → Option Answer
answer_in Unstarted = None
answer_in (Ready answer) = Some answer
answer_in (Blocked what since on) = None
answer_in Ended = None

-- the call on which it is blocked
abbrev pub blocked_of : State → Option Call
blocked_of Unstarted = None
blocked_of (Ready answer) = None
blocked_of (Blocked what since on) = Some what
blocked_of Ended = None

-- that call, since when, and on which activity, if it is one's
abbrev pub blocking_in : State → Option Blocking
blocking_in Unstarted = None
blocking_in (Ready answer) = None
blocking_in (Blocked what since on) = Some (record { what = what; since = since; on = on })
blocking_in Ended = None

-- whom a call joins
abbrev pub joined_by : Call → Option ActorId
joined_by (call.Join of) = Some of
joined_by other = None

-- for whose end it waits
abbrev pub joined_in : State → Option ActorId
joined_in Unstarted = None
joined_in (Ready answer) = None
joined_in (Blocked what since on) = joined_by what
joined_in Ended = None

-- whether an optional identifier is that of this actor
abbrev pub is_id : ℕ → Option ActorId → Bool
is_id id None = false
is_id id (Some actor) = actor.0 == id

-- it is blocked by a join of this actor
abbrev pub joins : ℕ → State → Bool
joins target state = is_id target (joined_in state)

-- ---- actors
-- it is to take a turn
abbrev pub is_ready : Actor → Bool
is_ready actor = is_answered actor.state && not actor.suspended

-- the answer with which it takes a turn
abbrev pub inbox_of : Actor → Option Answer
inbox_of actor = if actor.suspended then None else answer_in actor.state

-- it never takes a turn again, unless another starts it
abbrev pub is_over : Actor → Bool
is_over actor = not (is_alive actor.state)

-- who is blocked by a join of this actor, by rising id; the list begins with the actor of this id
unfoldable pub joiners : ℕ → ℕ → List Actor → List ActorId
joiners target id [] = []
joiners target id (actor ∷ rest) = if joins target actor.state then record { 0 = id } ∷ joiners target (id + 1) rest else joiners target (id + 1) rest

-- there is such an actor
pub record IsActor (actors : List Actor) (actor : ℕ) : Type 0 where
  pub from : 0 < actor
  pub to : actor ≤ length actors

-- the actor exists, and has an answer to which its call is the next one
pub record MayCall (actors : List Actor) (actor : ℕ) : Type 0 where
  pub from : 0 < actor
  pub to : actor ≤ length actors
  pub ready : IsTrue (is_answered (state_at actors actor))

-- the first of those that are blocked by a join of this actor
pub record IsJoiner (actors : List Actor) (target : ℕ) (actor : ActorId) : Type 0 where
  pub rest : List ActorId
  pub first : joiners target 1 actors ≡ actor ∷ rest
  pub from : 0 < actor.0
  pub to : actor.0 ≤ length actors
  pub joins : IsTrue (joins target (state_at actors actor.0))
  pub blocked : IsTrue (is_blocked (state_at actors actor.0))
