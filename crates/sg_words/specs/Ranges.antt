-- The ranges of the numbers of a command.
use Rattle.std.specs.Prelude.{ℕ, ◌≤◌}
use Rattle.std.specs.Coded.{×_prop, Unit-prop, le_prop}
use mathlib.Core.HLevel.{×₃_prop}
use Rattle.sg_words.specs.declared.job.Command.{Command}
use Rattle.sg_words.specs.declared.job.Command.TheVariants.{Replay, Run, Churn}

-- the ranges of a seed, and of how many actors and steps there are
abbrev pub AreChurnNumbers : ℕ → ℕ → ℕ → Type 0
AreChurnNumbers seed actors steps = (seed ≤ 9223372036854775807) × ((2 ≤ actors) × (actors ≤ 4096)) × (steps ≤ 1000000)

-- the numbers of a command are in their ranges
abbrev pub IsInRange : Command → Type 0
IsInRange (Replay platform deployment script) = Unit {0}
IsInRange (Run platform deployment) = Unit {0}
IsInRange (Churn seed actors steps) = AreChurnNumbers seed actors steps

-- in one way only, as a field of a job must be
pub IsInRange-prop : (command : Command) → IsProp (IsInRange command)
IsInRange-prop (Replay platform deployment script) = Unit-prop
IsInRange-prop (Run platform deployment) = Unit-prop
IsInRange-prop (Churn seed actors steps) = ×₃_prop le_prop (×_prop le_prop le_prop) le_prop
