-- Which activities fail by a kill.
use Rattle.std.specs.Prelude.{◌≡◌, ◌≢◌, ℕ, ◌<◌, false, IsTrue, All, Contains}
use Rattle.sg_base.specs.declared.call.Call.TheVariants as call
use Rattle.sg_base.specs.declared.ids.ActorId.{ActorId}
use Rattle.sg_route.specs.Roads.{Roads}
use Rattle.sg_actor_states.specs.Actors.{is_alive}
use Rattle.sg_mailbox.specs.declared.owners.How.TheVariants as how
use Rattle.sg_mailbox.specs.declared.owners.Whose.TheVariants.{Over}
use Rattle.sg_kernel_calls.specs.Calls.{answered}
use Rattle.sg_kernel_calls.specs.Kills.{awaited}
use Rattle.sg_kernel_calls.specs.Steps.{Step}
use Rattle.sg_kernel_calls.specs.World.{Core, state_of, whose_at}
use Rattle.sg_kernel_calls.specs.Setup.{Setup}
use Rattle.sg_kernel_laws.specs.failures.Laws.{is_over}

-- the activity has failed where the killed actor awaited it, and is as it was where not; ids are from 1 on
pub record FailsByKill (target : ActorId) (core : Core) (serial : ℕ) (step : Step) : Type 0 where
  pub fails : Contains (awaited target core) serial → whose_at step.core serial ≡ Over how.Failed
  pub stays : All (λ other. 0 < other) (awaited target core) → (Contains (awaited target core) serial → ⊥) → whose_at step.core serial ≡ whose_at core serial

-- So it is, in a kill of an actor that is alive and that the budget doesn't stop, for each activity that has not ended.
abbrev pub KillsFailWhatIsAwaited : Type 0
KillsFailWhatIsAwaited = (roads : Roads) (setup : Setup) (core : Core) (actor : ℕ) (target : ActorId) (serial : ℕ) → IsTrue (is_alive (state_of core target.0)) → core.events ≢ setup.budget → 0 < serial → is_over (whose_at core serial) ≡ false →
    FailsByKill target core serial (answered roads setup core actor (call.Kill target))
