-- How runs end.
use Rattle.std.specs.Prelude.{◌≡◌, ℕ, ◌+◌, ◌<◌, ◌≤◌, ◌||◌, Bool, false, IsTrue, IsSome, is_some, None, Some}
use Rattle.sg_platform_rows.specs.Platform.{IsPlatform}
use Rattle.sg_engine.specs.declared.ended.Ended.TheVariants as ended
use Rattle.sg_engine.specs.Run.{Scene, Answering, Progress, anyone_ready, are_completed, at_world, round_or_pass, run_from, with_front}
use Rattle.sg_engine.specs.World.{World}
use Rattle.sg_kernel.specs.Passes.{next_span, settled}
use Rattle.sg_kernel_calls.specs.World.{Core}
use Rattle.sg_kernel_calls.specs.Setup.{Setup}
use Rattle.sg_engine_laws.specs.awaits.Runs.{IsCoreOf, Run, first_in, parts_in, scene_in, whole}

-- A run continues with scheduling rounds and time advances until it ends: here all have ended that began, or the next
-- of them ends it, or it continues after that.
pub data GoesTo (at : Scene) (answers : Answering) : World → Progress → Type 0 where
  completes : {world : World} → IsTrue (are_completed world.core) → GoesTo at answers world (at_world (Some ended.Completed) world)
  ends : {world : World} → are_completed world.core ≡ false → IsSome (round_or_pass at answers world).ended → GoesTo at answers world (round_or_pass at answers world)
  goes_on : {world : World} {rest : Progress} → are_completed world.core ≡ false → (round_or_pass at answers world).ended ≡ None → GoesTo at answers (round_or_pass at answers world).world rest →
      GoesTo at answers world (with_front (round_or_pass at answers world).made rest)

-- The run as it is defined is the one to which its scheduling rounds and time advances lead, and they lead to no other.
pub record HasEnd (run : Run) : Type 0 where
  pub goes : GoesTo (scene_in run) run.answers (first_in run) (whole run)
  pub alone : (other : Progress) → GoesTo (scene_in run) run.answers (first_in run) other → other ≡ whole run
  pub ended : IsSome (whole run).ended

abbrev pub RunsEnd : Type 0
RunsEnd = (run : Run) → IsPlatform run.platform → HasEnd run

-- it is the same if there may be more scheduling rounds and time advances
abbrev pub MoreIsTheSame : Type 0
MoreIsTheSame = (run : Run) (more : ℕ) → IsPlatform run.platform → run_from (run.budget + 1 + more) (scene_in run) run.answers (first_in run) ≡ whole run

-- each scheduling round and each time advance that doesn't end the run adds an event
abbrev pub PartsCount : Type 0
PartsCount = (run : Run) (parts : ℕ) → IsPlatform run.platform → (parts_in (parts + 1) run).ended ≡ None → (parts_in parts run).world.core.events < (parts_in (parts + 1) run).world.core.events

-- No run has more events than its budget, and one that ends by it has as many.
pub record KeepsBudget (run : Run) : Type 0 where
  pub within : (core : Core) → IsCoreOf run core → core.events ≤ run.budget
  pub used : (whole run).ended ≡ Some ended.Budget → (whole run).world.core.events ≡ run.budget

abbrev pub BudgetsAreKept : Type 0
BudgetsAreKept = (run : Run) → IsPlatform run.platform → KeepsBudget run

-- an event is next: an actor is ready, or in some time a phase completes or an entry comes
abbrev pub has_next : Setup → Core → Bool
has_next setup core = anyone_ready core || is_some (next_span setup (settled core))

-- A run that has used up its budget after a scheduling round or a time advance ends by it, if an event is next.
abbrev pub UsedBudgetsEnd : Type 0
UsedBudgetsEnd = (run : Run) (parts : ℕ) → (parts_in parts run).ended ≡ None → (parts_in parts run).world.core.events ≡ run.budget → are_completed (parts_in parts run).world.core ≡ false →
    IsTrue (has_next (scene_in run).setup (parts_in parts run).world.core) → (parts_in (parts + 1) run).ended ≡ Some ended.Budget
