-- What a simulation is made of.
use Rattle.std.specs.Prelude.{ℕ, ◌-◌, Bool, List, length, slice_index, slice_index_or}
use Rattle.sg_base.specs.declared.awaits.Await.{Await}
use Rattle.sg_base.specs.Limits.{Extent}
use Rattle.sg_activity.specs.Underway.{Underway}
use Rattle.sg_profile.specs.declared.turn.Turn.{Turn}
use Rattle.sg_actor_states.specs.declared.state.Actor.{Actor}
use Rattle.sg_actor_states.specs.declared.state.State.{State}
use Rattle.sg_actor_states.specs.Actors.{actor_at, put_state, put_suspended, state_at}
use Rattle.sg_actor_states.specs.Actors as among
use Rattle.sg_sync.specs.Objects.{Objects}
use Rattle.sg_mailbox.specs.declared.owners.How.TheVariants as how
use Rattle.sg_mailbox.specs.declared.owners.Whose.{Whose}
use Rattle.sg_mailbox.specs.declared.owners.Whose.TheVariants.{Over}
use Rattle.sg_kernel_calls.specs.Setup.{Setup}

-- what calls may name
abbrev pub extent : Setup → Extent
extent setup = record { actors = length setup.homes; mutexes = setup.mutexes; semaphores = length setup.semaphores }

-- The part of the world that calls and time advances change: the running activities, with the date, the hosts and links
-- as they are now and the energy of each host; how far each profile is; what each actor does, and whether it is
-- suspended, by id from 1 on; the waiters of each activity ever made, by id from 1 on; the requests of each actor,
-- oldest first; the mutexes, the semaphores and the barrier; the count of events.
pub record Core : Type 0 where
  pub under : Underway
  pub turns : List Turn
  pub actors : List Actor
  pub whose : List Whose
  pub requests : List (List Await)
  pub objects : Objects
  pub events : ℕ

-- the number of the host on which an actor runs
abbrev pub host_of : Setup → ℕ → ℕ
host_of setup actor = slice_index setup.homes (actor - 1)

-- the state of an actor: unstarted, ready, blocked or ended
abbrev pub state_of : Core → ℕ → State
state_of core actor = state_at core.actors actor

-- the core, in which an actor has this state
abbrev pub with_state : ℕ → State → Core → Core
with_state actor state core = record core { actors = put_state core.actors actor state }

-- whether an actor is suspended, and so takes no turn
abbrev pub is_suspended : Core → ℕ → Bool
is_suspended core actor = (actor_at core.actors actor).suspended

-- the core, in which an actor is suspended or isn't any more
abbrev pub with_suspended : ℕ → Bool → Core → Core
with_suspended actor on core = record core { actors = put_suspended core.actors actor on }

-- the waiters of the activity with an id
abbrev pub whose_at : Core → ℕ → Whose
whose_at core serial = slice_index_or core.whose (serial - 1) (Over how.Done)

-- there is such an actor
abbrev pub IsActor : Core → ℕ → Type 0
IsActor core actor = among.IsActor core.actors actor

-- the actor exists, and has an answer to which its call is the next one
abbrev pub MayCall : Core → ℕ → Type 0
MayCall core actor = among.MayCall core.actors actor
