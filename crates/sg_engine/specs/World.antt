-- The world of a run.
use Rattle.std.specs.Prelude.{ℕ, List, Option}
use Rattle.sg_base.specs.Mind.{Mind}
use Rattle.sg_kernel_calls.specs.World.{Core}

-- The core; of each actor its mind, if it has begun, and how many lines it has fetched; how many contexts remain in the
-- pool; and the work so far: the sum of the visits that the rates of each time advance may take. The records are what
-- its steps make, one after another.
pub record World : Type 0 where
  pub minds : List (Option Mind)
  pub fetched : List ℕ
  pub contexts : ℕ
  pub core : Core
  pub work : ℕ
