-- Where a run ends whose budget is used up.
use Rattle.std.specs.Prelude.{◌≡◌, ℕ, ◌+◌, ◌<◌, ◌++◌, false, IsSome, None, Some, List, [], length, slice_index, take}
use Rattle.sg_base.specs.declared.trace_record.Record.{Record}
use Rattle.sg_activity.specs.Task.{task_at}
use Rattle.sg_activity.specs.Underway.{due_in, hits}
use Rattle.sg_profile.specs.Profiles.{rows_due}
use Rattle.sg_platform_rows.specs.Platform.{IsPlatform}
use Rattle.sg_engine.specs.declared.ended.Ended.TheVariants as ended
use Rattle.sg_engine.specs.Run.{anyone_ready, are_completed}
use Rattle.sg_kernel.specs.Passes.{changes, core_later, ends, enters_one, fails, next_span, settled}
use Rattle.sg_kernel_calls.specs.Setup.{Setup}
use Rattle.sg_kernel_calls.specs.Steps.{Step, and_then, each, goes_on, unless_used}
use Rattle.sg_kernel_calls.specs.World.{Core}
use Rattle.sg_engine_laws.specs.awaits.Runs.{Run, parts_in, run_to, scene_in, whole}
use Rattle.sg_engine_laws.specs.endings.Left.{CallIsLeft}

-- ---- how far a time advance has come
-- the rows whose entries come in so many nanoseconds
abbrev pub rows_in : Setup → ℕ → Core → List ℕ
rows_in setup span core = rows_due (core.under.date + span) setup.profiles core.turns

-- so many of these entries have come, with their failures
abbrev pub past_entries : ℕ → Setup → ℕ → Core → Step
past_entries entries setup span core =
    unless_used setup.budget core (each (changes setup) (take entries (rows_in setup span core)) (core_later span core))

-- and the next entry, without its failures
abbrev pub past_entry : ℕ → Setup → ℕ → Core → Step
past_entry entries setup span core =
    and_then (past_entries entries setup span core) (λ mid. unless_used setup.budget mid (enters_one setup (slice_index (rows_in setup span core) entries) mid))

-- and so many of its failures
abbrev pub past_failures : ℕ → ℕ → Setup → ℕ → Core → Step
past_failures entries failures setup span core =
    and_then (past_entry entries setup span core) (λ mid. each (fails setup) (take failures (hits mid.under)) mid)

-- or all entries have come, and of the activities whose phase completes then so many have been passed
abbrev pub past_ends : ℕ → Setup → ℕ → Core → Step
past_ends number setup span core =
    and_then (past_entries (length (rows_in setup span core)) setup span core) (each (ends setup) (take number (due_in span core.under)))

-- an event is next there: the first of the time advance, an entry, a failure, or the end of a phase that still runs
pub data IsNextAt (setup : Setup) (span : ℕ) (core : Core) : Step → Type 0 where
  at_start : IsNextAt setup span core (goes_on core [])
  an_entry : (entries : ℕ) → entries < length (rows_in setup span core) → IsNextAt setup span core (past_entries entries setup span core)
  a_failure : (entries failures : ℕ) → entries < length (rows_in setup span core) → failures < length (hits (past_entry entries setup span core).core.under) → IsNextAt setup span core (past_failures entries failures setup span core)
  an_end : (number : ℕ) → number < length (due_in span core.under) → IsSome (task_at (past_ends number setup span core).core.under.tasks (slice_index (due_in span core.under) number)) → IsNextAt setup span core (past_ends number setup span core)

-- ---- runs
-- behind so many scheduling rounds and time advances, such a time advance is next
pub record PassIsNext (run : Run) (parts span : ℕ) : Type 0 where
  pub goes_on : (parts_in parts run).ended ≡ None
  pub going : are_completed (parts_in parts run).world.core ≡ false
  pub idle : anyone_ready (parts_in parts run).world.core ≡ false
  pub next : next_span (scene_in run).setup (settled (parts_in parts run).world.core) ≡ Some span

-- the run ends there by its budget, with these records
pub record EndsThere (run : Run) (last : Core) (records : List Record) : Type 0 where
  pub spent : (whole run).ended ≡ Some ended.Budget
  pub core : (whole run).world.core ≡ last
  pub made : (whole run).made ≡ records

-- So it is where the budget is used up and an event is next: at each call of a scheduling round, and at each event of a
-- time advance.
pub record UsedBudgetsEndAnywhere : Type 0 where
  pub calls : (run : Run) (parts actors : ℕ) → IsPlatform run.platform → CallIsLeft run parts actors (run_to parts actors run).world.core → (run_to parts actors run).world.core.events ≡ run.budget →
      EndsThere run (run_to parts actors run).world.core (run_to parts actors run).made
  pub passes : (run : Run) (parts span : ℕ) (there : Step) → IsPlatform run.platform → PassIsNext run parts span → IsNextAt (scene_in run).setup span (settled (parts_in parts run).world.core) there → there.stop ≡ None → there.core.events ≡ run.budget →
      EndsThere run there.core ((parts_in parts run).made ++ there.made)
