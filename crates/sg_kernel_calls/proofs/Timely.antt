-- Profiles, as the date moves.
use Rattle.std.proofs.Common.{ℕ}
use Rattle.sg_kernel_calls.specs.declared.simulation_state.Fields.{Fields}
use Rattle.sg_kernel_calls.specs.kept.Sound.{IsTimetable}

-- at another date
abbrev pub IsTimelyAt : Fields → ℕ → Type 0
IsTimelyAt fields date = IsTimetable fields.setup.hosts fields.setup.links date fields.profiles
