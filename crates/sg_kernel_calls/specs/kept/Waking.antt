-- Between the call on an object and the answers to it.
use Rattle.std.specs.Prelude.{◌≡◌, ℕ, ◌+◌, ◌^◌, ◌<◌, ◌≤◌, List, length, All, IsTrue}
use Rattle.sg_base.specs.declared.ids.ActorId.{ActorId}
use Rattle.sg_base.specs.Limits.{IsActorNumber}
use Rattle.sg_actor_states.specs.States.{ActorStates, CanCall}
use Rattle.sg_sync.specs.Queues.{times}
use Rattle.sg_sync.specs.Objects as sync
use Rattle.sg_kernel_calls.specs.declared.simulation_state.Fields.{Fields}
use Rattle.sg_kernel_calls.specs.World.{extent, state_of}
use Rattle.sg_kernel_calls.specs.kept.Sound.{core_of, is_queued}

-- Whoever waits at an object, or is to be unblocked now, does so once. Each of them is an actor that is blocked so,
-- except those that come to wait and aren't answered yet.
pub record AreWaking (fields : Fields) (comers others : List ActorId) : Type 0 where
  pub owners : length fields.objects.objects.owners ≡ fields.setup.mutexes
  pub counts : length fields.objects.objects.counts ≡ length fields.setup.semaphores
  pub actors : fields.objects.objects.actors ≡ length fields.states.actors
  pub few : All (λ count. count ≤ 10 ^ 9 + fields.events) fields.objects.objects.counts
  pub once : (actor : ActorId) → sync.waiting fields.objects.objects actor + times actor others ≤ 1
  pub held : (actor : ActorId) → times actor comers < sync.waiting fields.objects.objects actor + times actor others → IsActorNumber (extent fields.setup) actor.0 × IsTrue (is_queued (state_of (core_of fields) actor.0))
  pub locking : length fields.objects.objects.locking ≡ fields.setup.mutexes
  pub acquiring : length fields.objects.objects.acquiring ≡ length fields.setup.semaphores

-- an actor that may make a call still may
pub record LeavesCallers (old new : ActorStates) : Type 0 where
  pub actors : length new.actors ≡ length old.actors
  pub callers : (actor : ℕ) → CanCall old actor → CanCall new actor
