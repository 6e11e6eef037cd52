-- Which contexts of its pool a call takes.
use Rattle.std.specs.Prelude.{◌≡◌, ◌≢◌, ◌≤◌, ℕ, false, List, length, drop, Result, IfOk, MatchResult}
use Rattle.sg_base.specs.declared.status.Status.{Status}
use Rattle.sg_base.specs.declared.status.Status.TheVariants as status
use Rattle.sg_platform_rows.specs.Deployment.{started_number}
use Rattle.simgrid_replay.specs.Outcome.{Outcome, cuts_output_short}
use Rattle.simgrid_replay.specs.Settings.{Setting}
use Rattle.simgrid_replay.specs.declared.refusal.Refusal.{Refusal}

-- Of the context pool the first contexts were taken: one for each actor that begins with the run, unless memory ran
-- out, and one at most for each actor; none if there is no run.
pub record TakesFirst {A : Type 0} (given : Result Setting Refusal) (how : Status) (old new : List A) : Type 0 where
  pub taken : ℕ
  pub least : how ≢ status.Memory → IfOk given (λ on. started_number on.deployment ≤ taken)
  pub most : MatchResult given (λ on. taken ≤ length on.deployment.actors) (λ why. taken ≡ 0)
  pub within : taken ≤ length old
  pub left : new ≡ drop taken old

-- Of the context pool the first contexts were taken, if any.
pub record TakesFront {A : Type 0} (old new : List A) : Type 0 where
  pub taken : ℕ
  pub within : taken ≤ length old
  pub left : new ≡ drop taken old

-- Of the context pool as many contexts were taken as the outcome takes, the first ones, and no more if the call was cut
-- off.
pub record TakesContexts {A : Type 0} (want : Outcome) (how : Status) (old new : List A) : Type 0 where
  pub taken : ℕ
  pub most : taken ≤ want.contexts
  pub all : cuts_output_short how ≡ false → taken ≡ want.contexts
  pub left : new ≡ drop taken old
