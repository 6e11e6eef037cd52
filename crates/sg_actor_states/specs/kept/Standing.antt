-- What always holds of the fields of `Crowd`.
use Rattle.std.specs.Prelude.{◌≡◌, ℕ, ◌==◌, ◌<◌, ◌≤◌, ◌^◌, Bool, true, false, IsTrue, if◌then◌else◌, List, length, count_by, All, vec_capacity}
use Rattle.std.specs.Global.{Vec}
use Rattle.sg_base.specs.declared.ids.ActorId.{ActorId}
use Rattle.sg_actor_states.specs.declared.joiners.Joiner.{Joiner}
use Rattle.sg_actor_states.specs.declared.state.Actor.{Actor}
use Rattle.sg_actor_states.specs.Actors.{is_answered, is_over, is_ready, put_actor, state_at, IsActor}
use Rattle.sg_actor_states.specs.Queue.{is_ready_in, AreReady, IsIdOf, IsQueue}
use Rattle.sg_actor_states.specs.kept.Waiting.{AreWaiting}

-- just who is to take a turn, each once, in any order: whom a time advance has answered so far
pub record HasAnswered (actors : List Actor) (queue : List ActorId) : Type 0 where
  pub ids : All (IsIdOf actors) queue
  pub once : (id : ℕ) → 0 < id → count_by (λ (actor : ActorId). actor.0 == id) queue ≡ (if is_ready_in actors id then 1 else 0)
  pub number : length queue ≡ count_by is_ready actors

-- the run queue during a time advance, and in a scheduling round
abbrev pub IsQueued : Bool → List Actor → List ActorId → Type 0
IsQueued true actors queue = HasAnswered actors queue
IsQueued false actors queue = IsQueue actors queue

-- there is a queue of those actors, and an actor whose state may change
pub record CanFollow (passing : Bool) (actors : List Actor) (queue : Vec ActorId) (one : ActorId) : Type 0 where
  pub actor : IsIdOf actors one
  pub queued : IsQueued passing actors queue.items
  pub room : length actors ≤ vec_capacity queue

-- the actor follows in the queue as the next one that is ready or not
pub record HasFollowed (passing : Bool) (actors : List Actor) (actor : ActorId) (ready : Bool) (old new : Vec ActorId) : Type 0 where
  pub queued : (next : Actor) → is_ready next ≡ ready → IsQueued passing (put_actor actors actor.0 next) new.items
  pub capacity : vec_capacity new ≡ vec_capacity old

-- the actor is the next one, and the queue is one of those actors
pub record HasBecome (passing : Bool) (actors : List Actor) (actor : ActorId) (next : Actor) (old new : Vec ActorId) : Type 0 where
  pub queued : IsQueued passing (put_actor actors actor.0 next) new.items
  pub capacity : vec_capacity new ≡ vec_capacity old

-- what the actors do, whether a time advance is running, and whether the run queue is known to list ready actors alone
pub record Standing : Type 0 where
  pub actors : List Actor
  pub passing : Bool
  pub trimmed : Bool

-- between time advances, there is such an actor
pub record CanPut (standing : Standing) (one : ℕ) : Type 0 where
  pub actor : IsActor standing.actors one
  pub round : standing.passing ≡ false

-- between time advances, an actor has an answer
pub record CanAnswer (standing : Standing) (one : ℕ) : Type 0 where
  pub actor : IsActor standing.actors one
  pub answered : IsTrue (is_answered (state_at standing.actors one))
  pub round : standing.passing ≡ false

-- how many actors are ready, how many have ended, and for how many the queue and the list of joiners have room
pub record Counts : Type 0 where
  pub ready : ℕ
  pub over : ℕ
  pub queue_room : ℕ
  pub joiners_room : ℕ

pub record IsStanding (standing : Standing) (queue : List ActorId) (joiners : List Joiner) (counts : Counts) : Type 0 where
  pub few : length standing.actors < 2 ^ 32
  pub ready_count : counts.ready ≡ count_by is_ready standing.actors
  pub over_count : counts.over ≡ count_by is_over standing.actors
  pub queued : IsQueued standing.passing standing.actors queue
  pub trimmed : IsTrue standing.trimmed → AreReady standing.actors queue
  pub waiting : AreWaiting standing.actors joiners
  pub queue_fits : length standing.actors ≤ counts.queue_room
  pub joiners_fit : length standing.actors ≤ counts.joiners_room
