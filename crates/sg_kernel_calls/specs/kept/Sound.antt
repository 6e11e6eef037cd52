-- How what is known is kept, and what holds of it.
use Rattle.std.specs.Prelude.{◌≡◌, ℕ, ◌+◌, ◌-◌, ◌*◌, ◌^◌, ◌<◌, ◌≤◌, min, ◌&&◌, not, Bool, true, false, IsTrue, Option, None, Some, is_some, IfSome, IsSome, List, length, slice_index_or, All}
use Rattle.sg_base.specs.declared.awaits.Await.{Await}
use Rattle.sg_base.specs.declared.ids.ActorId.{ActorId}
use Rattle.sg_base.specs.declared.ids.BoxId.{BoxId}
use Rattle.sg_base.specs.declared.ids.PointId.{PointId}
use Rattle.sg_base.specs.Limits.{Extent, IsActorIn, IsActorNumber, IsAmount, IsMsg, IsRate}
use Rattle.sg_mailbox.specs.declared.sides.Side.{Side}
use Rattle.sg_mailbox.specs.Posts.{waiters}
use Rattle.sg_profile.specs.Ahead.{IsAhead}
use Rattle.sg_profile.specs.Profiles.{AreProfiles, Timetable}
use Rattle.sg_route.specs.Roads.{Roads}
use Rattle.sg_actor_states.specs.declared.state.Blocking.{Blocking}
use Rattle.sg_actor_states.specs.declared.state.State.{State}
use Rattle.sg_actor_states.specs.Actors.{blocking_in, is_held, joined_in}
use Rattle.sg_actor_states.specs.Records.{IsTellable}
use Rattle.sg_sync.specs.Objects as sync
use Rattle.sg_kernel_calls.specs.declared.simulation_state.Fields.{Fields}
use Rattle.sg_kernel_calls.specs.declared.meetings.Comer.{Comer}
use Rattle.sg_mailbox.specs.declared.owners.How.TheVariants as how
use Rattle.sg_mailbox.specs.declared.owners.Whose.{Whose}
use Rattle.sg_mailbox.specs.declared.owners.Whose.TheVariants.{Over, Alone, Posted, Pair}
use Rattle.sg_kernel_calls.specs.Setup.{Setup}
use Rattle.sg_kernel_calls.specs.World.{Core, extent, host_of, state_of}
use Rattle.sg_kernel_calls.specs.Known.{Known, after}
use Rattle.sg_kernel_calls.specs.Meetings.{comes, posts_from}
use Rattle.sg_kernel_calls.specs.Steps.{Step, unless_used}

-- the setup of the definition: what stays, and the profiles
abbrev pub setup_in : Fields → Setup
setup_in fields = record fields.setup { profiles = fields.profiles.profiles }

abbrev pub core_of : Fields → Core
core_of fields = record {
  under = fields.doing.under;
  turns = fields.profiles.turns;
  actors = fields.states.actors;
  whose = fields.whose.whose;
  requests = fields.requests.queues;
  objects = fields.objects.objects;
  events = fields.events;
}

abbrev pub known_of : Fields → Known
known_of fields = record { setup = setup_in fields; core = core_of fields; records = fields.states.records; room = fields.states.room }

-- ---- what a function does to what is known
abbrev pub StepsBy : (Core → Step) → Fields → Fields → Type 0
StepsBy step old new = known_of new ≡ after (step (core_of old)) (known_of old)

-- what an arriving endpoint leads to
abbrev pub comes_in : Roads → Comer → Fields → Step
comes_in roads comer fields = unless_used fields.setup.budget (core_of fields) (comes roads fields.setup comer (core_of fields))

-- ---- what is kept
-- the numbers keep to their limits
pub record IsSound (fields : Fields) : Type 0 where
  pub numbered : length fields.whose.whose ≡ length fields.doing.under.tasks
  pub few : length fields.doing.under.tasks ≤ fields.events
  pub within : fields.events ≤ fields.setup.budget
  pub budgeted : fields.setup.budget ≤ 10 ^ 9
  pub hosts_counted : length fields.doing.under.capacities.hosts ≡ fields.setup.hosts
  pub links_counted : length fields.doing.under.capacities.links ≡ fields.setup.links
  pub homes_known : length fields.setup.homes ≡ length fields.states.actors
  pub requests_known : length fields.requests.queues ≡ length fields.states.actors
  pub requests_few : fields.requests.asked ≤ fields.events
  pub extent_is : fields.states.extent ≡ extent fields.setup

-- there is room for what so many calls begin
pub record HasRoom (room : ℕ) (fields : Fields) : Type 0 where
  pub starts : room ≤ fields.doing.room
  pub owners : room ≤ fields.whose.room
  pub mailboxes : room ≤ fields.boxes.room
  pub requests : room ≤ fields.requests.room

-- how late it may be after so many events: the first moves the date by the gap between two entries at most, and any other by the longest wait
abbrev pub latest : ℕ → ℕ
latest events = min events 1 * (2 * 10 ^ 18) + (events - 1) * 10 ^ 24

abbrev pub IsDated : Fields → Type 0
IsDated fields = fields.doing.under.date ≤ latest fields.events

-- ---- profiles
-- Their hosts and links exist, and no entry is overdue or further ahead than from one entry to the next.
pub record IsTimetable (hosts links date : ℕ) (table : Timetable) : Type 0 where
  pub profiles : AreProfiles hosts links table.profiles
  pub ahead : IsAhead date table.profiles table.turns

abbrev pub IsTimely : Fields → Type 0
IsTimely fields = IsTimetable fields.setup.hosts fields.setup.links fields.doing.under.date fields.profiles

-- the host of an actor
pub record IsHome (fields : Fields) (actor : ℕ) (host : PointId) : Type 0 where
  pub is : host.0 ≡ host_of fields.setup actor
  pub exists : host.0 < length fields.doing.under.capacities.hosts

-- ---- what keeps to its limits
pub record IsSide (extent : Extent) (side : Side) : Type 0 where
  pub actor : IsActorIn extent side.actor
  pub bytes : IsAmount side.bytes
  pub message : IsMsg side.msg
  pub rate : IsRate side.rate

-- an arriving endpoint: a record may name its call, and it keeps to the limits
pub record IsComer (extent : Extent) (comer : Comer) : Type 0 where
  pub what : IsTellable extent comer.what
  pub side : IsSide extent comer.side

abbrev pub IsOwner : Extent → Whose → Type 0
IsOwner extent (Over before) = Unit {0}
IsOwner extent (Alone actor) = IsActorIn extent actor
IsOwner extent (Posted mailbox sends side) = IsSide extent side
IsOwner extent (Pair sender receiver) = IsSide extent sender × IsSide extent receiver

-- whose activities are keeps to the limits
abbrev pub AreLimited : Fields → Type 0
AreLimited fields = All (IsOwner (extent fields.setup)) fields.whose.whose

-- ---- communications
abbrev pub is_posted : Whose → Bool
is_posted (Over before) = false
is_posted (Alone actor) = false
is_posted (Posted mailbox sends side) = true
is_posted (Pair sender receiver) = false

-- whether no part of such an activity is running
abbrev pub is_idle : Whose → Bool
is_idle (Over before) = true
is_idle (Alone actor) = false
is_idle (Posted mailbox sends side) = true
is_idle (Pair sender receiver) = false

-- an activity with this id was made
pub record IsMade (made : ℕ) (on : Await) : Type 0 where
  pub from : 0 < on.serial.0
  pub to : on.serial.0 ≤ made

-- an activity on which an actor is blocked was made
abbrev pub AwaitsMade : ℕ → Option Blocking → Type 0
AwaitsMade made None = Unit {0}
AwaitsMade made (Some blocking) = IfSome blocking.on (IsMade made)

-- The mailboxes hold the communications with one endpoint. Neither these nor ended activities run; all others do.
-- Requests are for communications that were made, and actors are blocked on activities that were made.
pub record AreMeeting (fields : Fields) : Type 0 where
  pub posts : (mailbox : BoxId) → waiters fields.boxes mailbox ≡ posts_from mailbox 1 fields.whose.whose
  pub idle : (place : ℕ) → IsTrue (is_idle (slice_index_or fields.whose.whose place (Over how.Done))) → slice_index_or fields.doing.under.tasks place None ≡ None
  pub busy : (place : ℕ) → is_idle (slice_index_or fields.whose.whose place (Over how.Done)) ≡ false → IsSome (slice_index_or fields.doing.under.tasks place None)
  pub asked : All (λ (queue : List Await). All (IsMade (length fields.whose.whose)) queue) fields.requests.queues
  pub awaited : (actor : ℕ) → AwaitsMade (length fields.whose.whose) (blocking_in (state_of (core_of fields) actor))

-- ---- mutexes, semaphores and the barrier
-- whether an actor is blocked by a call that waits at an object, and not for the end of another
abbrev pub is_queued : State → Bool
is_queued state = is_held state && not (is_some (joined_in state))

-- an actor that waits at an object waits there once, and is blocked so
pub record AreHeld (fields : Fields) : Type 0 where
  pub owners : length fields.objects.objects.owners ≡ fields.setup.mutexes
  pub counts : length fields.objects.objects.counts ≡ length fields.setup.semaphores
  pub actors : fields.objects.objects.actors ≡ length fields.states.actors
  pub few : All (λ count. count ≤ 10 ^ 9 + fields.events) fields.objects.objects.counts
  pub once : (actor : ActorId) → sync.waiting fields.objects.objects actor ≤ 1
  pub held : (actor : ActorId) → 0 < sync.waiting fields.objects.objects actor → IsActorNumber (extent fields.setup) actor.0 × IsTrue (is_queued (state_of (core_of fields) actor.0))
  pub locking : length fields.objects.objects.locking ≡ fields.setup.mutexes
  pub acquiring : length fields.objects.objects.acquiring ≡ length fields.setup.semaphores
