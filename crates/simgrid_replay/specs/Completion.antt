-- The result of a call if no write failed.
use Rattle.std.specs.Prelude.{◌≡◌, ◌≢◌, ◌⊎◌, ℕ, List, Option}
use Rattle.sg_base.specs.declared.status.Status.{Status}
use Rattle.sg_base.specs.declared.status.Status.TheVariants as status
use Rattle.sg_edge.specs.declared.files.Part.{Part}
use Rattle.sg_edge.specs.declared.sinks.Stream.{Stream}
use Rattle.sg_edge.specs.Cause.{HasCause}
use Rattle.sg_edge.specs.Files.{PartView, SomeBroke}
use Rattle.simgrid_replay.specs.Outcome.{Outcome, IsWhole, Prints}

-- If no write failed and there was memory, all that the definition has was written, with its status; and a run that
-- completes by the definition says so, or that memory ran out.
pub record IsWholeIfSound (want : Outcome) (how : Status) (faults : ℕ) (old new : Stream → Option (List ℕ)) : Type 0 where
  pub whole : faults ≡ 0 → how ≢ status.Memory → IsWhole want how old new
  pub completed : faults ≡ 0 → want.status ≡ status.Completed → (how ≡ status.Completed) ⊎ (how ≡ status.Memory)

-- so it is of whatever prints its outcome and has its cause
abbrev pub OutcomesAreWhole : Type 0
OutcomesAreWhole = (want : Outcome) (how : Status) (had faults : ℕ) (old new : Stream → Option (List ℕ)) (before after : Part → PartView)
    → Prints want how old new
    → HasCause (how ≡ status.WriteFault) (how ≡ status.ReadFault) had faults (SomeBroke before after)
    → IsWholeIfSound want how faults old new
