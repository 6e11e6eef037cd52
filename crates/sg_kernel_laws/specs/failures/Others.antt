-- Which calls may be answered that they failed.
use Rattle.std.specs.Prelude.{◌≡◌, ℕ, ◌-◌, ◌<◌, Bool, true, false, Option, None, Some, List, length, slice_index_or, All}
use Rattle.sg_base.specs.declared.awaits.Await.{Await}
use Rattle.sg_base.specs.declared.awaits.Party.TheVariants as party
use Rattle.sg_base.specs.declared.call.Action.{Action}
use Rattle.sg_base.specs.declared.call.Call.{Call}
use Rattle.sg_base.specs.declared.call.Call.TheVariants as call
use Rattle.sg_base.specs.declared.ids.ActorId.{ActorId}
use Rattle.sg_base.specs.declared.trace_record.Record.{Record}
use Rattle.sg_activity.specs.Links.{Capacities}
use Rattle.sg_activity.specs.Task.{Place, Task, nowhere, on_host, over, task_at}
use Rattle.sg_requests.specs.Requested.{queue_at}
use Rattle.sg_route.specs.Roads.{Roads}
use Rattle.sg_actor_states.specs.declared.state.Actor.{Actor}
use Rattle.sg_actor_states.specs.declared.state.State.TheVariants.{Blocked}
use Rattle.sg_actor_states.specs.Actors.{state_at}
use Rattle.sg_mailbox.specs.declared.owners.How.TheVariants as how
use Rattle.sg_mailbox.specs.declared.owners.Whose.{Whose}
use Rattle.sg_mailbox.specs.declared.owners.Whose.TheVariants.{Over, Alone}
use Rattle.sg_kernel_calls.specs.Calls.{answered, told}
use Rattle.sg_kernel_calls.specs.Lives.{created}
use Rattle.sg_kernel.specs.Passes.{pass_of}
use Rattle.sg_kernel.specs.Start.{first_core}
use Rattle.sg_kernel_calls.specs.Steps.{Step}
use Rattle.sg_kernel_calls.specs.Setup.{Setup}
use Rattle.sg_kernel_calls.specs.World.{Core}
use Rattle.sg_kernel_laws.specs.failures.Laws.{is_failed}

-- whether an answer to the call may be that it failed
abbrev pub may_fail : Call → Bool
may_fail (call.Compute flops priority) = true
may_fail (call.Send mailbox bytes message rate) = true
may_fail (call.Recv mailbox) = true
may_fail call.Wait = true
may_fail other = false

-- a record of a failure is of such a call
abbrev pub MayTell : Record → Type 0
MayTell r = is_failed r.end ≡ true → may_fail r.what ≡ true

abbrev pub is_nowhere_at : Place → Bool
is_nowhere_at nowhere = true
is_nowhere_at (on_host host) = false
is_nowhere_at (over way) = false

-- whether nothing is running, or what uses no host and no link
abbrev pub is_nowhere : Option Task → Bool
is_nowhere None = true
is_nowhere (Some task) = is_nowhere_at task.place

-- an actor that sleeps waits alone, for an activity that was made and that, while it is an actor's alone, uses no host
-- and no link
pub record IsSleep (tasks : List (Option Task)) (whose : List Whose) (on : Await) : Type 0 where
  pub alone : on.party ≡ party.Alone
  pub made : on.serial.0 - 1 < length whose
  pub free : (owner : ActorId) → slice_index_or whose (on.serial.0 - 1) (Over how.Done) ≡ Alone owner → is_nowhere (task_at tasks on.serial.0) ≡ true

-- whether an actor may wait for the activity by this call
abbrev pub Suits : List (Option Task) → List Whose → Call → Await → Type 0
Suits tasks whose (call.Sleep ns) on = IsSleep tasks whose on
Suits tasks whose other on = may_fail other ≡ true

-- what an actor may wait for was made, and is no other's alone
pub record IsOwn (whose : List Whose) (actor : ℕ) (on : Await) : Type 0 where
  pub made : on.serial.0 - 1 < length whose
  pub own : (owner : ActorId) → slice_index_or whose (on.serial.0 - 1) (Over how.Done) ≡ Alone owner → owner.0 - 1 ≡ actor - 1

-- all actors that wait for an activity do so by a call that suits it, and that activity and what they asked for are no other's alone
pub record AreFit (actors : List Actor) (tasks : List (Option Task)) (whose : List Whose) (requests : List (List Await)) : Type 0 where
  pub numbered : length whose ≡ length tasks
  pub waits : (actor since : ℕ) (what : Call) (on : Await) → state_at actors actor ≡ Blocked what since (Some on) → Suits tasks whose what on
  pub own : (actor since : ℕ) (what : Call) (on : Await) → state_at actors actor ≡ Blocked what since (Some on) → IsOwn whose actor on
  pub asked : (actor : ℕ) → All (IsOwn whose actor) (queue_at requests actor)

abbrev pub IsFit : Core → Type 0
IsFit core = AreFit core.actors core.under.tasks core.whose core.requests

-- it stays so, and no other call is answered as failed
pub record TellsFew (step : Step) : Type 0 where
  pub fit : IsFit step.core
  pub made : All MayTell step.made

-- so it is at first, with each call, each actor that is created, each line that is fetched and each time advance
pub record NoOtherFails : Type 0 where
  pub first : (capacities : Capacities) (setup : Setup) → IsFit (first_core capacities setup)
  pub calls : (roads : Roads) (setup : Setup) (core : Core) (actor : ℕ) (what : Call) → IsFit core → TellsFew (answered roads setup core actor what)
  pub creates : (given : Bool) (actor : ℕ) (target : ActorId) (core : Core) → IsFit core → TellsFew (created given actor target core)
  pub asks : (setup : Setup) (core : Core) (actor : ℕ) (action : Option Action) → IsFit core → TellsFew (told setup core actor action)
  pub passes : (setup : Setup) (core : Core) → IsFit core → TellsFew (pass_of setup core)
