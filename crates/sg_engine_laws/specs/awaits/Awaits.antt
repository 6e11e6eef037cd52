-- What names an actor, and what an actor awaits.
use Rattle.std.specs.Prelude.{◌≡◌, ℕ, ◌<◌, ◌==◌, ◌||◌, Bool, false, IsTrue, None, []}
use Rattle.std.specs.List.{Contains}
use Rattle.sg_base.specs.declared.call.Call.TheVariants as call
use Rattle.sg_base.specs.declared.ids.ActorId.{ActorId}
use Rattle.sg_requests.specs.Requested.{queue_at}
use Rattle.sg_route.specs.Roads.{Roads}
use Rattle.sg_actor_states.specs.Actors.{is_alive}
use Rattle.sg_mailbox.specs.declared.owners.Whose.{Whose}
use Rattle.sg_mailbox.specs.declared.owners.Whose.TheVariants.{Over, Alone, Posted, Pair}
use Rattle.sg_kernel_calls.specs.Calls.{answered}
use Rattle.sg_kernel_calls.specs.Kills.{awaited}
use Rattle.sg_kernel_calls.specs.Setup.{Setup}
use Rattle.sg_kernel_calls.specs.World.{Core, IsActor, MayCall, state_of, whose_at}
use Rattle.sg_kernel_laws.specs.actors.Dead.{HasEnded}
use Rattle.sg_engine_laws.specs.awaits.Reached.{Reaches, Reached}

-- whether an activity that isn't over is one of the actor
abbrev pub names : ActorId → Whose → Bool
names target (Over before) = false
names target (Alone actor) = actor.0 == target.0
names target (Posted mailbox sends side) = side.actor.0 == target.0
names target (Pair sender receiver) = (sender.actor.0 == target.0) || (receiver.actor.0 == target.0)

-- each activity that names the actor is the one on which it is blocked, or among its requests
abbrev pub AwaitsAll : ActorId → Core → Type 0
AwaitsAll target core = (serial : ℕ) → 0 < serial → IsTrue (names target (whose_at core serial)) → Contains (awaited target core) serial

-- no activity, running or in a mailbox, names the actor
abbrev pub IsUnnamed : ActorId → Core → Type 0
IsUnnamed target core = (serial : ℕ) → 0 < serial → names target (whose_at core serial) ≡ false

-- in each core that a run reaches all actors await all that names them
abbrev pub NamedAreAwaited : Type 0
NamedAreAwaited = (roads : Roads) (setup : Setup) (core : Core) → Reached roads setup core → (target : ActorId) → AwaitsAll target core

-- so one that has ended, and has no requests, isn't named
abbrev pub EndedAreUnnamed : Type 0
EndedAreUnnamed = (roads : Roads) (setup : Setup) (core : Core) → Reached roads setup core → (target : ActorId) → HasEnded target.0 core → queue_at core.requests target.0 ≡ [] → IsUnnamed target core

-- A kill of an actor that is alive, which isn't stopped, leaves nothing that names it, and nothing does in any core that the run reaches from there.
abbrev pub KilledLeaveNothing : Type 0
KilledLeaveNothing = (roads : Roads) (setup : Setup) (core : Core) (actor : ℕ) (target : ActorId) → Reached roads setup core → MayCall core actor → IsActor core target.0 → IsTrue (is_alive (state_of core target.0)) →
    (answered roads setup core actor (call.Kill target)).stop ≡ None → (later : Core) → Reaches roads setup (answered roads setup core actor (call.Kill target)).core later → IsUnnamed target later
