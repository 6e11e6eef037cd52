-- Failures in runs.
use Rattle.std.specs.Prelude.{◌≡◌, ◌≢◌, ℕ, None, Some, All}
use Rattle.sg_engine.specs.declared.ended.Ended.TheVariants as ended
use Rattle.sg_kernel.specs.Failures.{UsesNothingOff}
use Rattle.sg_kernel_calls.specs.World.{Core}
use Rattle.sg_kernel_laws.specs.failures.Others.{IsFit, MayTell}
use Rattle.sg_engine_laws.specs.awaits.Runs.{Run, IsCoreOf, parts_in, run_to, whole}

-- No running activity uses what is off: after each scheduling round and each time advance, and at the end, unless the
-- budget has ended the run, maybe in the middle of a time advance; and within each scheduling round.
pub record NothingOffIsUsedInRuns : Type 0 where
  pub behind : (run : Run) (parts : ℕ) → (parts_in parts run).ended ≢ Some ended.Budget → UsesNothingOff (parts_in parts run).world.core
  pub within : (run : Run) (parts actors : ℕ) → (parts_in parts run).ended ≡ None → UsesNothingOff (run_to parts actors run).world.core
  pub last : (run : Run) → (whole run).ended ≢ Some ended.Budget → UsesNothingOff (whole run).world.core

-- Each record of a failure in a run is of a call that may fail, and an actor that waits in one of its cores does so by
-- a call that suits.
pub record NoOtherFailsInRuns : Type 0 where
  pub made : (run : Run) → All MayTell (whole run).made
  pub made_by : (run : Run) (parts actors : ℕ) → All MayTell (run_to parts actors run).made
  pub fit : (run : Run) (core : Core) → IsCoreOf run core → IsFit core
