-- What a kill leaves of an actor.
use Rattle.std.specs.Prelude.{◌≡◌, ℕ, IsTrue, None, [], All}
use Rattle.sg_base.specs.declared.ids.ActorId.{ActorId}
use Rattle.sg_requests.specs.Requested.{queue_at}
use Rattle.sg_actor_states.specs.Actors.{is_alive}
use Rattle.sg_sync.specs.Objects.{waiting}
use Rattle.sg_kernel_calls.specs.Kills.{kills}
use Rattle.sg_kernel_calls.specs.Steps.{Step}
use Rattle.sg_kernel_calls.specs.World.{Core, IsActor, MayCall, state_of}
use Rattle.sg_kernel_laws.specs.actors.Dead.{HasEnded, IsOfAnother}

-- It has ended, and there was no other event; no record is of it, it has no requests, waits nowhere, and the mutexes have the owners that they had.
pub record EndsBy (target : ActorId) (core : Core) (step : Step) : Type 0 where
  pub ended : HasEnded target.0 step.core
  pub goes_on : step.stop ≡ None
  pub events : step.core.events ≡ core.events
  pub silent : All (IsOfAnother target.0) step.made
  pub requests : queue_at step.core.requests target.0 ≡ []
  pub waits : waiting step.core.objects target ≡ 0
  pub owners : step.core.objects.owners ≡ core.objects.owners

-- an actor that is killed by one that may call, maybe itself, ends so if it is alive
abbrev pub KillsEnd : Type 0
KillsEnd = (actor : ℕ) (target : ActorId) (core : Core) → MayCall core actor → IsActor core target.0 →
    IsTrue (is_alive (state_of core target.0)) → EndsBy target core (kills actor target core)
