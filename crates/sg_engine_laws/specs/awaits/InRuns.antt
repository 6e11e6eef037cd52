-- Laws of the cores of runs.
use Rattle.std.specs.Prelude.{◌≡◌, ℕ, ◌+◌, []}
use Rattle.sg_base.specs.declared.ids.ActorId.{ActorId}
use Rattle.sg_requests.specs.Requested.{queue_at}
use Rattle.sg_route.specs.Roads.{roads_of}
use Rattle.sg_kernel_calls.specs.Setup.{setup_of}
use Rattle.sg_kernel_calls.specs.World.{Core}
use Rattle.sg_kernel_laws.specs.actors.Dead.{HasEnded}
use Rattle.sg_engine_laws.specs.awaits.Awaits.{AwaitsAll, IsUnnamed}
use Rattle.sg_engine_laws.specs.awaits.Reached.{Reached}
use Rattle.sg_engine_laws.specs.awaits.Runs.{IsLaterCore, IsCoreOf, KillsAt, Run}

-- each core of a run is reached by calls, creates, fetched lines and time advances, with the premises that the kernel's
-- functions have
abbrev pub RunsAreReached : Type 0
RunsAreReached = (run : Run) (core : Core) → IsCoreOf run core → Reached (roads_of run.platform) (setup_of run.platform run.deployed run.budget) core

-- so in it all actors await all that names them
abbrev pub NamedInRunsAreAwaited : Type 0
NamedInRunsAreAwaited = (run : Run) (core : Core) → IsCoreOf run core → (target : ActorId) → AwaitsAll target core

-- and nothing names one that has ended, and has no requests
abbrev pub EndedInRunsAreUnnamed : Type 0
EndedInRunsAreUnnamed = (run : Run) (core : Core) → IsCoreOf run core → (target : ActorId) → HasEnded target.0 core → queue_at core.requests target.0 ≡ [] → IsUnnamed target core

-- if a run kills an actor, nothing names it after that call
abbrev pub KilledInRunsAreUnnamed : Type 0
KilledInRunsAreUnnamed = (run : Run) (parts actors : ℕ) (target : ActorId) → KillsAt run parts actors target → (core : Core) → IsLaterCore run parts (actors + 1) core → IsUnnamed target core
