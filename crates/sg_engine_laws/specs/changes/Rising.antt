-- In which order a time advance makes its records.
use Rattle.std.specs.Prelude.{◌≡◌, ℕ, ◌+◌, Some, List, [], ◌∷◌, ◌++◌, All, length}
use Rattle.sg_base.specs.declared.trace_record.Record.{Record}
use Rattle.sg_profile.specs.Profiles.{rows_due}
use Rattle.sg_kernel.specs.Passes.{next_span, pass_of, settled}
use Rattle.sg_kernel_calls.specs.Steps.{Step}
use Rattle.sg_kernel_calls.specs.World.{Core}
use Rattle.sg_kernel_calls.specs.Setup.{Setup}
use Rattle.sg_engine_laws.specs.changes.Order.{Rise, serial_before}

-- one after another
abbrev pub joined : List (List Record) → List Record
joined [] = []
joined (made ∷ more) = made ++ joined more

-- The records of the activities that fail after an entry come by rising id, entry by entry, and last, by rising id too, those of the activities that complete.
pub record RecordsBySerial (rows : List ℕ) (core : Core) (step : Step) : Type 0 where
  pub stretches : List (List Record)
  pub made : step.made ≡ joined stretches
  pub number : length stretches ≡ length rows + 1
  pub rise : All (Rise (serial_before core)) stretches

-- so it is for each time advance in which an event comes
abbrev pub TimeAdvancesRecordBySerial : Type 0
TimeAdvancesRecordBySerial = (setup : Setup) (core : Core) (span : ℕ) → next_span setup (settled core) ≡ Some span →
    RecordsBySerial (rows_due (core.under.date + span) setup.profiles core.turns) core (pass_of setup core)
