-- Whose what actors wait for is.
use Rattle.std.specs.Prelude.{◌≡◌, ℕ, ◌<◌, Some, All}
use Rattle.sg_base.specs.declared.awaits.Await.{Await}
use Rattle.sg_base.specs.declared.awaits.Party.{Party}
use Rattle.sg_base.specs.declared.awaits.Party.TheVariants as party
use Rattle.sg_base.specs.declared.call.Call.{Call}
use Rattle.sg_base.specs.declared.ids.ActorId.{ActorId}
use Rattle.sg_actor_states.specs.declared.state.State.TheVariants.{Blocked}
use Rattle.sg_mailbox.specs.declared.owners.Whose.{Whose}
use Rattle.sg_mailbox.specs.declared.owners.Whose.TheVariants.{Over, Alone, Posted, Pair}
use Rattle.sg_kernel_calls.specs.Kills.{awaited}
use Rattle.sg_kernel_calls.specs.Meetings.{party_of}
use Rattle.sg_kernel_calls.specs.World.{Core, state_of, whose_at}
use Rattle.sg_engine_laws.specs.awaits.Runs.{Run, IsCoreOf}

-- the actor takes part so in what isn't over: it computes or sleeps, or is this side of a communication
abbrev pub PartOf : ℕ → Whose → Party → Type 0
PartOf actor (Over before) side = ⊥
PartOf actor (Alone owner) side = (side ≡ party.Alone) × (owner.0 ≡ actor)
PartOf actor (Posted mailbox sends other) side = (side ≡ party_of sends) × (other.actor.0 ≡ actor)
PartOf actor (Pair sender receiver) party.Alone = ⊥
PartOf actor (Pair sender receiver) party.Sender = sender.actor.0 ≡ actor
PartOf actor (Pair sender receiver) party.Receiver = receiver.actor.0 ≡ actor

-- In each core of a run an actor that is blocked on an activity takes part in it, and it hasn't ended: no actor waits
-- for what has failed or completed.
abbrev pub NobodyWaitsForOver : Type 0
NobodyWaitsForOver = (run : Run) (core : Core) → IsCoreOf run core → (actor since : ℕ) (what : Call) (on : Await) → 0 < actor → state_of core actor ≡ Blocked what since (Some on) →
    PartOf actor (whose_at core on.serial.0) on.party

-- activity ids are from 1 on: all that an actor awaits was drawn
abbrev pub AwaitedAreDrawn : Type 0
AwaitedAreDrawn = (run : Run) (core : Core) → IsCoreOf run core → (target : ActorId) → 0 < target.0 → All (λ serial. 0 < serial) (awaited target core)
