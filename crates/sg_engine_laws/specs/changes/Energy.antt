-- What hosts use of energy over a run.
use Rattle.std.specs.Prelude.{◌≡◌, ℕ, zero, suc, ◌+◌, ◌-◌, ◌*◌, ◌<◌, ◌≤◌, length, slice_index_or}
use Rattle.sg_activity.specs.Underway.{Underway, power_at}
use Rattle.sg_engine_laws.specs.awaits.Runs.{Run, parts_in, run_to, whole}

-- the running activities after so many scheduling rounds and time advances
abbrev pub under_behind : ℕ → Run → Underway
under_behind parts run = (parts_in parts run).world.core.under

-- for how many nanoseconds the next of them lasts
abbrev pub span_behind : ℕ → Run → ℕ
span_behind parts run = (under_behind (parts + 1) run).date - (under_behind parts run).date

-- what a host uses in them, by the power that it has before
abbrev pub used_behind : ℕ → Run → ℕ → ℕ
used_behind parts run host = power_at (under_behind parts run) host * span_behind parts run

-- the sum over so many scheduling rounds and time advances
unfoldable pub used_by : ℕ → Run → ℕ → ℕ
used_by zero run host = 0
used_by (suc parts) run host = used_by parts run host + used_behind parts run host

-- the energy of a host
abbrev pub energy_of : Underway → ℕ → ℕ
energy_of under host = slice_index_or under.energy host 0

-- In a run dates never go back, and the energy of each host is that sum, at the end too; within a scheduling round
-- neither changes.
pub record EnergyIsSum : Type 0 where
  pub rises : (run : Run) (parts : ℕ) → (under_behind parts run).date ≤ (under_behind (parts + 1) run).date
  pub behind : (run : Run) (parts host : ℕ) → host < length run.platform.hosts → energy_of (under_behind parts run) host ≡ used_by parts run host
  pub within : (run : Run) (parts actors host : ℕ) → host < length run.platform.hosts → energy_of (run_to parts actors run).world.core.under host ≡ used_by parts run host
  pub instant : (run : Run) (parts actors : ℕ) → (run_to parts actors run).world.core.under.date ≡ (under_behind parts run).date
  pub last : (run : Run) (host : ℕ) → host < length run.platform.hosts → energy_of (whole run).world.core.under host ≡ used_by (run.budget + 1) run host
