-- What an input stream has given to a call: its bytes, and whether a call failed after them.
use Rattle.std.specs.Prelude.{◌≡◌, ◌≢◌, ◌<◌, ◌≤◌, ◌+◌, ◌-◌, ℕ, List, length, take, if◌then◌else◌, Some, Bool, true, false, ⊤}
use Rattle.sg_edge.specs.declared.files.Stage.{Stage}
use Rattle.sg_edge.specs.declared.files.Stage.TheVariants.{Broken}
use Rattle.sg_edge.specs.declared.loading.Loaded.{Loaded}
use Rattle.sg_edge.specs.declared.loading.Loaded.TheVariants.{Whole, TooLong, Fault, Memory}
use Rattle.sg_edge.specs.Files.{PartView, TakesJust}

-- the bytes of an input stream, and whether a call failed at their end
pub record Source : Type 0 where
  pub bytes : List ℕ
  pub broken : Bool

-- whether a read of an input stream has failed
abbrev pub is_broken : Stage → Bool
is_broken Broken = true
is_broken other = false

-- all bytes of an input stream that isn't broken, and of a broken one those that were taken
abbrev pub bytes_given : List ℕ → List ℕ → Stage → List ℕ
bytes_given all rest stage = if is_broken stage then take (length all - length rest) all else all

-- this is what the input stream gave between two moments; nothing is said if its contents are unknown
pub record Gives (old new : PartView) (source : Source) : Type 0 where
  pub all : List ℕ
  pub rest : List ℕ
  pub told_old : old.left ≡ Some all
  pub told_new : new.left ≡ Some rest
  pub bytes : source.bytes ≡ bytes_given all rest new.stage
  pub broken : source.broken ≡ is_broken new.stage

-- what an input stream of at most so many bytes was read as; its length counts before a later failure
abbrev pub LoadedIs : ℕ → Loaded → Source → Type 0
LoadedIs most (Whole bytes) source =
    (source.bytes ≡ bytes.items) × (source.broken ≡ false) × (length bytes.items ≤ most)
LoadedIs most TooLong source = most < length source.bytes
LoadedIs most Fault source = (source.broken ≡ true) × (length source.bytes ≤ most)
LoadedIs most Memory source = ⊤

-- a fault is reported only of an input stream that is broken and whose count rose
abbrev pub FaultIs : Loaded → PartView → PartView → Type 0
FaultIs (Whole bytes) old new = (new.stage ≢ Broken) × (new.faults ≡ old.faults)
FaultIs TooLong old new = (new.stage ≢ Broken) × (new.faults ≡ old.faults)
FaultIs Fault old new = (new.stage ≡ Broken) × (old.faults < new.faults)
FaultIs Memory old new = new.faults ≡ old.faults

-- what was read whole is no longer than the most
abbrev pub IsFew : ℕ → Loaded → Type 0
IsFew most (Whole bytes) = length bytes.items ≤ most
IsFew most TooLong = ⊤
IsFew most Fault = ⊤
IsFew most Memory = ⊤

-- of an input stream that is too long one byte more than the most was taken
abbrev pub StopsBehind : ℕ → Loaded → PartView → PartView → Type 0
StopsBehind most (Whole bytes) old new = ⊤
StopsBehind most TooLong old new = TakesJust (most + 1) old new
StopsBehind most Fault old new = ⊤
StopsBehind most Memory old new = ⊤
