-- What contracts see of a `Kernel`.
use Rattle.std.specs.Prelude.{ℕ, ◌-◌, Bool, if◌then◌else◌, List, ◌++◌}
use Rattle.sg_base.specs.declared.trace_record.Record.{Record}
use Rattle.sg_kernel_calls.specs.Setup.{Setup}
use Rattle.sg_kernel_calls.specs.World.{Core}
use Rattle.sg_kernel_calls.specs.Steps.{Step}

-- the setup, the core, the records that aren't cleared, and room for so many calls
pub record Known : Type 0 where
  pub setup : Setup
  pub core : Core
  pub records : List Record
  pub room : ℕ

abbrev pub after : Step → Known → Known
after step known = record known { core = step.core; records = known.records ++ step.made }

-- after a call: one that is answered took its room
abbrev pub after_call : Bool → Step → Known → Known
after_call is_answered step known = record (after step known) { room = known.room - (if is_answered then 1 else 0) }
