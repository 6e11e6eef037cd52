-- What a kill records, and in which order.
use Rattle.std.specs.Prelude.{◌≡◌, ◌≢◌, ℕ, ◌-◌, ◌<◌, ◌≤◌, ◌==◌, ◌++◌, if◌then◌else◌, Option, None, Some, List, [], ◌∷◌, All, IsTrue}
use Rattle.sg_base.specs.declared.awaits.Await.{Await}
use Rattle.sg_base.specs.declared.call.Answer.TheVariants as answer
use Rattle.sg_base.specs.declared.call.Call.TheVariants as call
use Rattle.sg_base.specs.declared.ids.ActorId.{ActorId}
use Rattle.sg_base.specs.declared.trace_record.Record.{Record}
use Rattle.sg_route.specs.Roads.{Roads}
use Rattle.sg_actor_states.specs.declared.state.State.TheVariants.{Blocked}
use Rattle.sg_actor_states.specs.Actors.{blocking_in, is_alive}
use Rattle.sg_actor_states.specs.Records.{record_of}
use Rattle.sg_kernel_calls.specs.Calls.{answered}
use Rattle.sg_kernel_calls.specs.Kills.{blocked_on}
use Rattle.sg_kernel_calls.specs.Steps.{Step}
use Rattle.sg_kernel_calls.specs.Setup.{Setup}
use Rattle.sg_kernel_calls.specs.World.{Core, MayCall, state_of}
use Rattle.sg_kernel_laws.specs.failures.Laws.{TellsJoiner, TellsOther}
use Rattle.sg_engine_laws.specs.changes.Told.{IsTold}

abbrev pub serial_on : Option Await → ℕ
serial_on None = 0
serial_on (Some on) = on.serial.0

-- the id of the activity on which the actor of the record was blocked
abbrev pub serial_before : Core → Record → ℕ
serial_before core r = serial_on (blocked_on (blocking_in (state_of core r.actor.0)))

abbrev pub id_in : Record → ℕ
id_in r = r.actor.0

-- by this number none comes after one that has more
abbrev pub Rise : (Record → ℕ) → List Record → Type 0
Rise number [] = Unit {0}
Rise number (r ∷ more) = All (λ other. number r ≤ number other) more × Rise number more

-- the kill's own; an actor that kills itself gets none
abbrev pub own_records : ℕ → ActorId → Core → List Record
own_records actor target core = if actor == target.0 then [] else record_of actor (call.Kill target) core.under.date 0 answer.Done core.under.date ∷ []

-- First comes the record of the kill, then those of the other endpoints of what the killed one awaited, in order of
-- activity id, and then those of the actors that joined it, by rising id. All of these have their answers.
pub record TellsInOrder (actor : ℕ) (target : ActorId) (core : Core) (step : Step) : Type 0 where
  pub sides : List Record
  pub joins : List Record
  pub made : step.made ≡ own_records actor target core ++ (sides ++ joins)
  pub others : All (TellsOther target core) sides
  pub by_serial : Rise (serial_before core) sides
  pub joiners : All (TellsJoiner target core) joins
  pub by_id : Rise id_in joins
  pub told : (other since : ℕ) → 0 < other → other - 1 ≢ target.0 - 1 → state_of core other ≡ Blocked (call.Join target) since None → IsTold other since (call.Join target) step

-- so it is of each kill of one that is alive, by one that may call, and that the budget doesn't stop
abbrev pub KillsTellInOrder : Type 0
KillsTellInOrder = (roads : Roads) (setup : Setup) (core : Core) (actor : ℕ) (target : ActorId) → MayCall core actor → IsTrue (is_alive (state_of core target.0)) → core.events ≢ setup.budget →
    TellsInOrder actor target core (answered roads setup core actor (call.Kill target))

-- The records of an exit are all of actors that joined the one that exits, by rising id, and each of these has one.
pub record TellsJoiners (actor : ℕ) (core : Core) (step : Step) : Type 0 where
  pub joiners : All (TellsJoiner (record { 0 = actor }) core) step.made
  pub by_id : Rise id_in step.made
  pub told : (other since : ℕ) → 0 < other → other - 1 ≢ actor - 1 → state_of core other ≡ Blocked (call.Join (record { 0 = actor })) since None → IsTold other since (call.Join (record { 0 = actor })) step

abbrev pub ExitsTellJoiners : Type 0
ExitsTellJoiners = (roads : Roads) (setup : Setup) (core : Core) (actor : ℕ) → core.events ≢ setup.budget → TellsJoiners actor core (answered roads setup core actor call.Exit)
