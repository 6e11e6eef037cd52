-- Which event is next where the budget ends a run.
use Rattle.std.specs.Prelude.{◌≡◌, ◌≢◌, ℕ, ◌+◌, false, IsSome, None, Some, [], Contains, slice_index_or}
use Rattle.sg_activity.specs.Task.{task_at}
use Rattle.sg_activity.specs.Underway.{due_in, hits}
use Rattle.sg_profile.specs.Profiles.{rows_due}
use Rattle.sg_platform_rows.specs.Platform.{IsPlatform}
use Rattle.sg_actor_states.specs.Actors.{is_ended}
use Rattle.sg_engine.specs.declared.ended.Ended.TheVariants as ended
use Rattle.sg_engine.specs.Run.{anyone_ready}
use Rattle.sg_kernel.specs.Passes.{next_span, settled}
use Rattle.sg_kernel_calls.specs.Setup.{Setup}
use Rattle.sg_kernel_calls.specs.World.{Core, state_of}
use Rattle.sg_engine_laws.specs.awaits.Runs.{Run, calls_in, parts_in, run_to, scene_in, whole}

-- in a scheduling round that hasn't ended the run until there, the call of the next actor, which hasn't ended
pub record CallIsLeft (run : Run) (parts actors : ℕ) (last : Core) : Type 0 where
  pub goes_on : (run_to parts actors run).ended ≡ None
  pub here : (run_to parts actors run).world.core ≡ last
  pub calls : IsSome (slice_index_or (calls_in (parts_in parts run).world) actors None)
  pub lives : is_ended (state_of last (actors + 1)) ≡ false

-- in a time advance that begins at one core and comes as far as the last: all of it, an entry of its date, a failure, or the end of a phase that is running
pub data IsLeftIn (setup : Setup) (span : ℕ) (core last : Core) : Type 0 where
  all : last ≡ core → IsLeftIn setup span core last
  an_entry : rows_due (core.under.date + span) setup.profiles last.turns ≢ [] → IsLeftIn setup span core last
  a_failure : hits last.under ≢ [] → IsLeftIn setup span core last
  an_end : (serial : ℕ) → Contains (due_in span core.under) serial → IsSome (task_at last.under.tasks serial) → IsLeftIn setup span core last

-- so in a time advance to a date at which an event comes
pub record PassIsLeft (run : Run) (parts : ℕ) (last : Core) : Type 0 where
  pub goes_on : (parts_in parts run).ended ≡ None
  pub idle : anyone_ready (parts_in parts run).world.core ≡ false
  pub span : ℕ
  pub next : next_span (scene_in run).setup (settled (parts_in parts run).world.core) ≡ Some span
  pub left : IsLeftIn (scene_in run).setup span (settled (parts_in parts run).world.core) last

-- an event is next in the last core of a run
pub data EventIsLeft (run : Run) (last : Core) : Type 0 where
  in_round : (parts actors : ℕ) → CallIsLeft run parts actors last → EventIsLeft run last
  in_pass : (parts : ℕ) → PassIsLeft run parts last → EventIsLeft run last

-- A run that ends by its budget does so where an event is next.
abbrev pub BudgetsEndBeforeEvents : Type 0
BudgetsEndBeforeEvents = (run : Run) → IsPlatform run.platform → (whole run).ended ≡ Some ended.Budget → EventIsLeft run (whole run).world.core
