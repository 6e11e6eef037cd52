-- Why a call says that a write or a read has failed.
use Rattle.std.specs.Prelude.{◌≡◌, ◌<◌, ℕ}

-- A failed write is reported if and only if a write has failed since, by the counts of failed writes before and
-- after; a failed read is reported if one broke its input stream.
pub record HasCause (tells_write tells_read : Type 0) (had faults : ℕ) (broke : Type 0)
    : Type 0 where
  pub write : tells_write → had < faults
  pub sound : ¬ tells_write → faults ≡ had
  pub read : tells_read → broke
