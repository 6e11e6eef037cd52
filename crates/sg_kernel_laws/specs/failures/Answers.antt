-- Who is answered that its call failed.
use Rattle.std.specs.Prelude.{◌≡◌, ◌⊎◌, ℕ, ◌-◌, Bool, true, Option, List, ◌∷◌, ◌++◌}
use Rattle.sg_base.specs.declared.call.Action.{Action}
use Rattle.sg_base.specs.declared.call.Answer.TheVariants as answer
use Rattle.sg_base.specs.declared.call.Call.{Call}
use Rattle.sg_base.specs.declared.ids.ActorId.{ActorId}
use Rattle.sg_base.specs.declared.trace_record.Record.{Record}
use Rattle.sg_route.specs.Roads.{Roads}
use Rattle.sg_actor_states.specs.declared.state.State.TheVariants.{Ready}
use Rattle.sg_kernel_calls.specs.Calls.{answered, told}
use Rattle.sg_kernel_calls.specs.Lives.{created}
use Rattle.sg_kernel_calls.specs.Steps.{Step}
use Rattle.sg_kernel_calls.specs.World.{Core, state_of}
use Rattle.sg_kernel.specs.Passes.{pass_of}
use Rattle.sg_kernel_calls.specs.Setup.{Setup}
use Rattle.sg_kernel_laws.specs.failures.Laws.{is_failed}

-- one of the records is of the actor, and is of a failed call; an actor's place is one below its id
pub record HasFailed (actor : ℕ) (made : List Record) : Type 0 where
  pub front : List Record
  pub own : Record
  pub back : List Record
  pub among : made ≡ front ++ own ∷ back
  pub of : own.actor.0 - 1 ≡ actor - 1
  pub fails : is_failed own.end ≡ true

-- an actor that is ready with the answer that its call failed was so before, or has one of these records
abbrev pub FailuresHaveRecords : Core → Core → List Record → Type 0
FailuresHaveRecords before after made =
    (actor : ℕ) → state_of after actor ≡ Ready answer.Failed → (state_of before actor ≡ Ready answer.Failed) ⊎ HasFailed actor made

abbrev pub HasRecordIn : Core → Step → Type 0
HasRecordIn before step = FailuresHaveRecords before step.core step.made

-- so it is for each call, each actor that is created, each line that is fetched, and each time advance
pub record FailedAnswersHaveRecords : Type 0 where
  pub calls : (roads : Roads) (setup : Setup) (core : Core) (actor : ℕ) (what : Call) → HasRecordIn core (answered roads setup core actor what)
  pub creates : (given : Bool) (actor : ℕ) (target : ActorId) (core : Core) → HasRecordIn core (created given actor target core)
  pub asks : (setup : Setup) (core : Core) (actor : ℕ) (action : Option Action) → HasRecordIn core (told setup core actor action)
  pub passes : (setup : Setup) (core : Core) → HasRecordIn core (pass_of setup core)
