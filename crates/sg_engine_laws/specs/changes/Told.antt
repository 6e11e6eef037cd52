-- An actor that was blocked on what ended has its record and its answer.
use Rattle.std.specs.Prelude.{◌≡◌, ◌≢◌, ℕ, ◌-◌, ◌<◌, ◌++◌, true, Some, List, ◌∷◌, Contains}
use Rattle.sg_base.specs.declared.awaits.Await.{Await}
use Rattle.sg_base.specs.declared.call.Answer.{Answer}
use Rattle.sg_base.specs.declared.call.Call.{Call}
use Rattle.sg_base.specs.declared.call.Call.TheVariants as call
use Rattle.sg_base.specs.declared.ids.ActorId.{ActorId}
use Rattle.sg_base.specs.declared.trace_record.Record.{Record}
use Rattle.sg_actor_states.specs.declared.state.State.TheVariants.{Ready, Blocked}
use Rattle.sg_actor_states.specs.Actors.{is_alive}
use Rattle.sg_actor_states.specs.Records.{end_by, record_of}
use Rattle.sg_route.specs.Roads.{roads_of}
use Rattle.sg_mailbox.specs.declared.owners.How.{How}
use Rattle.sg_mailbox.specs.declared.owners.Whose.TheVariants.{Over}
use Rattle.sg_kernel_calls.specs.Calls.{answered}
use Rattle.sg_kernel_calls.specs.Kills.{awaited}
use Rattle.sg_kernel.specs.Passes.{pass_of}
use Rattle.sg_kernel_calls.specs.Setup.{setup_of, Setup}
use Rattle.sg_kernel_calls.specs.Steps.{Step}
use Rattle.sg_kernel_calls.specs.World.{Core, MayCall, state_of, whose_at}
use Rattle.sg_kernel_laws.specs.failures.Laws.{TellsCaller, over_by}
use Rattle.sg_engine_laws.specs.awaits.Runs.{Run, IsCoreOf}

-- one of the records that a step makes is of the call that the actor made at that date, and the actor has the answer of
-- that record
pub record IsTold (actor since : ℕ) (what : Call) (step : Step) : Type 0 where
  pub given : Answer
  pub bytes : ℕ
  pub front : List Record
  pub back : List Record
  pub made : step.made ≡ front ++ record_of actor what since bytes given step.core.under.date ∷ back
  pub ready : state_of step.core actor ≡ Ready given

-- one of the records of a step is of the actor's call, and says how the activity ended
pub record IsAnswered (actor since : ℕ) (what : Call) (over : How) (step : Step) : Type 0 where
  pub told : IsTold actor since what step
  pub tells : over_by (end_by told.given (step.core.under.date - since)) ≡ over

abbrev pub setup_in : Run → Setup
setup_in run = setup_of run.platform run.deployed run.budget

-- In each core of a run, an actor that is blocked on an activity has its record and its answer from a time advance that
-- completes it or fails it.
abbrev pub PassesAnswer : Type 0
PassesAnswer = (run : Run) (core : Core) → IsCoreOf run core → (actor since : ℕ) (what : Call) (on : Await) (over : How) → 0 < actor → state_of core actor ≡ Blocked what since (Some on) →
    whose_at (pass_of (setup_in run) core).core on.serial.0 ≡ Over over → IsAnswered actor since what over (pass_of (setup_in run) core)

-- one of the records says that the actor's call has failed, and the actor has an answer
pub record IsFailed (actor since : ℕ) (what : Call) (step : Step) : Type 0 where
  pub fails : TellsCaller actor what step.made
  pub told : IsTold actor since what step

-- In each core of a run the kill of another living actor reaches whoever is blocked on an activity that the killed one
-- awaits.
abbrev pub KillsReach : Type 0
KillsReach = (run : Run) (core : Core) → IsCoreOf run core → (actor : ℕ) (target : ActorId) → MayCall core actor → 0 < target.0 → is_alive (state_of core target.0) ≡ true → core.events ≢ run.budget →
    (other since : ℕ) (called : Call) (on : Await) → 0 < other → other ≢ target.0 → state_of core other ≡ Blocked called since (Some on) → Contains (awaited target core) on.serial.0 →
    IsFailed other since called (answered (roads_of run.platform) (setup_in run) core actor (call.Kill target))
