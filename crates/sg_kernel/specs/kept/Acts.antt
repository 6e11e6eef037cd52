-- What the functions of a time advance ask for, and what they do.
use Rattle.std.specs.Prelude.{◌≡◌, ℕ, Result, drop}
use Rattle.sg_activity_table.specs.declared.kinds.Phase.{Phase}
use Rattle.sg_activity.specs.Doing.{IsDue}
use Rattle.sg_activity.specs.Task.{phase_after, task_at}
use Rattle.sg_profile.specs.declared.entry.Entry.{Entry}
use Rattle.sg_kernel_calls.specs.declared.simulation_state.Fields.{Fields}
use Rattle.sg_kernel_calls.specs.declared.stop.Stop.{Stop}
use Rattle.sg_kernel_calls.specs.Steps.{Step, result_of}
use Rattle.sg_kernel_calls.specs.World.{Core}
use Rattle.sg_kernel.specs.Passes.{ends_in}
use Rattle.sg_kernel.specs.kept.Coming.{IsDueEntry, LeavesDue}
use Rattle.sg_kernel_calls.specs.kept.Sound.{core_of, StepsBy}
use Rattle.sg_kernel_calls.specs.kept.Whole.{IsPassing}

-- ---- what is asked for
-- in a time advance this entry comes next, and is counted
pub record CanEnter (fields : Fields) (entry : Entry) : Type 0 where
  pub due : IsDueEntry fields entry
  pub passing : IsPassing fields

-- or this phase ends next
pub record CanEnd (fields : Fields) (phase : Phase) : Type 0 where
  pub due : IsDue fields.doing phase
  pub passing : IsPassing fields

-- ---- what is done: what is known changes so, and what is kept is whole again
-- by an entry or a failure, once it is counted
pub record Enters (step : Core → Step) (old new : Fields) : Type 0 where
  pub known : StepsBy step old new
  pub passing : IsPassing new
  pub due : LeavesDue old new
  pub events : new.events ≡ old.events

-- by as many as the budget allows
pub record Changes (step : Core → Step) (old new : Fields) (reply : Result Unit Stop) : Type 0 where
  pub known : StepsBy step old new
  pub result : reply ≡ result_of (step (core_of old)).stop
  pub passing : IsPassing new
  pub due : LeavesDue old new

-- once it is counted, the running phase of the activity with this id ends
abbrev pub phase_ends : ℕ → Core → Step
phase_ends serial core = ends_in serial (phase_after (task_at core.under.tasks serial)) core

-- by the end of the first phase that completes, once it is counted
pub record Ends (step : Core → Step) (old new : Fields) : Type 0 where
  pub known : StepsBy step old new
  pub passing : IsPassing new
  pub due : new.doing.due ≡ drop 1 old.doing.due
  pub date : new.doing.under.date ≡ old.doing.under.date
  pub events : new.events ≡ old.events

-- by as many ends as the budget allows
pub record Passes (step : Core → Step) (old new : Fields) (reply : Result Unit Stop) : Type 0 where
  pub known : StepsBy step old new
  pub result : reply ≡ result_of (step (core_of old)).stop
  pub passing : IsPassing new
  pub date : new.doing.under.date ≡ old.doing.under.date
