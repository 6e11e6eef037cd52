-- An actor that has ended is never answered again, and one that has an answer keeps it.
use Rattle.std.specs.Prelude.{◌≡◌, ◌≢◌, ◌⊎◌, ℕ, ◌<◌, Bool, IsTrue, Option, All}
use Rattle.sg_base.specs.declared.call.Action.{Action}
use Rattle.sg_base.specs.declared.call.Answer.{Answer}
use Rattle.sg_base.specs.declared.call.Call.{Call}
use Rattle.sg_base.specs.declared.ids.ActorId.{ActorId}
use Rattle.sg_base.specs.declared.trace_record.Record.{Record}
use Rattle.sg_requests.specs.Requested.{queue_at}
use Rattle.sg_route.specs.Roads.{Roads}
use Rattle.sg_actor_states.specs.declared.state.State.TheVariants.{Ready, Ended}
use Rattle.sg_actor_states.specs.Actors.{is_unstarted}
use Rattle.sg_kernel_calls.specs.Calls.{answered, told}
use Rattle.sg_kernel_calls.specs.Lives.{created}
use Rattle.sg_kernel.specs.Passes.{pass_of}
use Rattle.sg_kernel_calls.specs.Steps.{Step}
use Rattle.sg_kernel_calls.specs.Setup.{Setup}
use Rattle.sg_kernel_calls.specs.World.{Core, MayCall, state_of}

abbrev pub HasEnded : ℕ → Core → Type 0
HasEnded actor core = state_of core actor ≡ Ended

-- a record of another actor
abbrev pub IsOfAnother : ℕ → Record → Type 0
IsOfAnother actor r = r.actor.0 ≢ actor

-- after the step the actor has ended and has the requests that it had before, and the step makes no record of it
pub record LeavesDead (dead : ℕ) (before : Core) (step : Step) : Type 0 where
  pub ended : HasEnded dead step.core
  pub requests : queue_at step.core.requests dead ≡ queue_at before.requests dead
  pub silent : All (IsOfAnother dead) step.made

-- So it is with each call of another actor that may call, each fetch of a line that is answered, each actor that is
-- created, and each time advance.
pub record DeadStayDead : Type 0 where
  pub calls : (roads : Roads) (setup : Setup) (core : Core) (actor dead : ℕ) (what : Call) → MayCall core actor → HasEnded dead core → LeavesDead dead core (answered roads setup core actor what)
  pub creates : (given : Bool) (actor dead : ℕ) (target : ActorId) (core : Core) → MayCall core actor → (IsTrue given → IsTrue (is_unstarted (state_of core target.0))) → HasEnded dead core → LeavesDead dead core (created given actor target core)
  pub asks : (setup : Setup) (core : Core) (actor dead : ℕ) (action : Option Action) → MayCall core actor → HasEnded dead core → LeavesDead dead core (told setup core actor action)
  pub passes : (setup : Setup) (core : Core) (dead : ℕ) → HasEnded dead core → LeavesDead dead core (pass_of setup core)

-- the actor has this answer, or was killed
abbrev pub KeepsAnswer : ℕ → Answer → Core → Type 0
KeepsAnswer actor answer core = (state_of core actor ≡ Ready answer) ⊎ HasEnded actor core

-- So it is of one that has an answer, after each call of another, each actor that another creates, each line that
-- another is given, and each time advance.
pub record AnswersStay : Type 0 where
  pub calls : (roads : Roads) (setup : Setup) (core : Core) (actor other : ℕ) (what : Call) (answer : Answer) → MayCall core actor → 0 < other → other ≢ actor → state_of core other ≡ Ready answer → KeepsAnswer other answer (answered roads setup core actor what).core
  pub creates : (given : Bool) (actor other : ℕ) (target : ActorId) (core : Core) (answer : Answer) → MayCall core actor → (IsTrue given → IsTrue (is_unstarted (state_of core target.0))) → 0 < other → other ≢ actor → state_of core other ≡ Ready answer → KeepsAnswer other answer (created given actor target core).core
  pub asks : (setup : Setup) (core : Core) (actor other : ℕ) (action : Option Action) (answer : Answer) → MayCall core actor → 0 < other → other ≢ actor → state_of core other ≡ Ready answer → KeepsAnswer other answer (told setup core actor action).core
  pub passes : (setup : Setup) (core : Core) (other : ℕ) (answer : Answer) → state_of core other ≡ Ready answer → KeepsAnswer other answer (pass_of setup core).core
