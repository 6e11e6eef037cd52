-- What a create leads to.
use Rattle.std.specs.Prelude.{◌≡◌, ◌≢◌, ℕ, ◌<◌, ◌+◌, Bool, true, false, IsTrue, [], ◌∷◌}
use Rattle.sg_base.specs.declared.call.Answer.{Answer}
use Rattle.sg_base.specs.declared.call.Answer.TheVariants as answer
use Rattle.sg_base.specs.declared.call.Call.TheVariants as call
use Rattle.sg_base.specs.declared.ids.ActorId.{ActorId}
use Rattle.sg_actor_states.specs.declared.state.State.TheVariants.{Ready}
use Rattle.sg_actor_states.specs.Actors.{is_unstarted}
use Rattle.sg_actor_states.specs.Records.{record_of}
use Rattle.sg_kernel_calls.specs.Lives.{created}
use Rattle.sg_kernel_calls.specs.Steps.{Step}
use Rattle.sg_kernel_calls.specs.World.{Core, IsActor, MayCall, state_of}

-- the answer to a create, by whether the named actor was given a context
abbrev pub answer_of_create : Bool → Answer
answer_of_create true = answer.Done
answer_of_create false = answer.Refused

-- The caller is answered so, in one event and one record. If a context was given the named actor starts, and all others
-- do what they did.
pub record CreatesBy (given : Bool) (actor : ℕ) (target : ActorId) (core : Core) (step : Step) : Type 0 where
  pub caller : state_of step.core actor ≡ Ready (answer_of_create given)
  pub starts : IsTrue given → state_of step.core target.0 ≡ Ready answer.Start
  pub others : (other : ℕ) → 0 < other → other ≢ actor → (IsTrue given → other ≢ target.0) → state_of step.core other ≡ state_of core other
  pub told : step.made ≡ record_of actor (call.Create target) core.under.date 0 (answer_of_create given) core.under.date ∷ []
  pub events : step.core.events ≡ core.events + 1

-- so is each create of one that may call, which gives a context to an actor that never started, if to any
abbrev pub CreatesAreExact : Type 0
CreatesAreExact = (given : Bool) (actor : ℕ) (target : ActorId) (core : Core) → MayCall core actor → IsActor core target.0 →
    (IsTrue given → IsTrue (is_unstarted (state_of core target.0))) → CreatesBy given actor target core (created given actor target core)
