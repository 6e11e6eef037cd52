-- Who is answered in a run that its call failed.
use Rattle.std.specs.Prelude.{◌≡◌, ℕ, true}
use Rattle.sg_base.specs.declared.call.Answer.TheVariants as answer
use Rattle.sg_actor_states.specs.declared.state.State.TheVariants.{Ready}
use Rattle.sg_kernel_calls.specs.World.{state_of}
use Rattle.sg_engine.specs.Run.{Progress}
use Rattle.sg_kernel_laws.specs.failures.Answers.{HasFailed}
use Rattle.sg_kernel_laws.specs.failures.Others.{may_fail}
use Rattle.sg_engine_laws.specs.awaits.Runs.{Run, run_to, whole}

-- the run has made a record until there that the actor's call failed, and that call is one that may fail
pub record IsFailedCall (actor : ℕ) (progress : Progress) : Type 0 where
  pub told : HasFailed actor progress.made
  pub call : may_fail told.own.what ≡ true

-- each actor that is ready there with the answer that its call failed has one
abbrev pub AreFailedCalls : Progress → Type 0
AreFailedCalls progress = (actor : ℕ) → state_of progress.world.core actor ≡ Ready answer.Failed → IsFailedCall actor progress

-- So it is anywhere in a run: within its scheduling rounds, after its time advances, and at its end.
pub record FailedAnswersHaveRecordsInRuns : Type 0 where
  pub within : (run : Run) (parts actors : ℕ) → AreFailedCalls (run_to parts actors run)
  pub last : (run : Run) → AreFailedCalls (whole run)
