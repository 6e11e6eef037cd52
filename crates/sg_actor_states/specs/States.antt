-- What contracts see of `States`, and how it changes.
use Rattle.std.specs.Prelude.{◌≡◌, ℕ, ◌-◌, ◌<◌, ◌≤◌, Bool, false, IsTrue, List, [], ◌∷◌, ◌++◌}
use Rattle.sg_base.specs.declared.call.Answer.{Answer}
use Rattle.sg_base.specs.declared.call.Call.{Call}
use Rattle.sg_base.specs.declared.trace_record.Record.{Record}
use Rattle.sg_base.specs.Limits.{Extent, IsAnswer}
use Rattle.sg_actor_states.specs.declared.state.Actor.{Actor}
use Rattle.sg_actor_states.specs.declared.state.State.{State}
use Rattle.sg_actor_states.specs.declared.state.State.TheVariants.{Unstarted, Ready, Blocked, Ended}
use Rattle.sg_actor_states.specs.Actors.{is_alive, put_state, put_suspended, state_at, IsActor, MayCall}
use Rattle.sg_actor_states.specs.Records.{record_of, IsTellable}

-- what calls may name; what each actor does; the records that aren't cleared; room for so many calls; whether a time advance
-- runs; whether the run queue is known to list ready actors alone
pub record ActorStates : Type 0 where
  pub extent : Extent
  pub actors : List Actor
  pub records : List Record
  pub room : ℕ
  pub passing : Bool
  pub trimmed : Bool

-- a call of the actor can be answered: it may make one, there is room for it, and no time advance is running
pub record CanCall (states : ActorStates) (actor : ℕ) : Type 0 where
  pub caller : MayCall states.actors actor
  pub room : 0 < states.room
  pub round : states.passing ≡ false

-- an actor's call can be answered by this
pub record CanGoOn (states : ActorStates) (actor : ℕ) (given : Answer) : Type 0 where
  pub able : CanCall states actor
  pub answer : IsAnswer states.extent given

-- a scheduling round may begin with room for so many calls: there is no more room, and no time advance is
-- running
pub record CanReserve (n : ℕ) (states : ActorStates) : Type 0 where
  pub more : states.room ≤ n
  pub round : states.passing ≡ false

-- another may kill, suspend or resume the actor: it is alive, and no time advance is running
pub record IsAlive (states : ActorStates) (actor : ℕ) : Type 0 where
  pub is : IsActor states.actors actor
  pub alive : IsTrue (is_alive (state_at states.actors actor))
  pub round : states.passing ≡ false

-- the actor does that from now on
abbrev pub with_state : ℕ → State → ActorStates → ActorStates
with_state actor state states = record states { actors = put_state states.actors actor state; trimmed = false }

-- the actor is suspended from now on, or isn't any more
abbrev pub with_suspended : ℕ → Bool → ActorStates → ActorStates
with_suspended actor on states = record states { actors = put_suspended states.actors actor on; trimmed = false }

-- it does that by a call, which takes its room
abbrev pub by_call : ℕ → State → ActorStates → ActorStates
by_call actor state states = record (with_state actor state states) { room = states.room - 1 }

-- The call that it made at that date is answered now, with a record.
abbrev pub with_reply : ℕ → Call → ℕ → ℕ → Answer → ℕ → ActorStates → ActorStates
with_reply actor what since bytes answer date states =
    record (with_state actor (Ready answer) states) { records = states.records ++ record_of actor what since bytes answer date ∷ [] }

-- what the state of an actor says keeps to the limits
abbrev pub KeepsLimits : Extent → State → Type 0
KeepsLimits extent Unstarted = Unit {0}
KeepsLimits extent (Ready answer) = IsAnswer extent answer
KeepsLimits extent (Blocked what since on) = IsTellable extent what
KeepsLimits extent Ended = Unit {0}
