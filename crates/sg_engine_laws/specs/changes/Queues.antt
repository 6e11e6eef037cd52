-- An actor that was killed waits in no queue.
use Rattle.std.specs.Prelude.{◌≡◌, ℕ, ◌+◌}
use Rattle.sg_base.specs.declared.ids.ActorId.{ActorId}
use Rattle.sg_sync.specs.Objects.{waiting}
use Rattle.sg_kernel_calls.specs.World.{Core}
use Rattle.sg_engine_laws.specs.awaits.Runs.{Run, IsLaterCore, KillsAt}

-- if a run kills an actor, it waits for no mutex, no semaphore and not at the barrier after that call
abbrev pub KilledWaitNowhere : Type 0
KilledWaitNowhere = (run : Run) (parts actors : ℕ) (target : ActorId) → KillsAt run parts actors target → (core : Core) → IsLaterCore run parts (actors + 1) core → waiting core.objects target ≡ 0
