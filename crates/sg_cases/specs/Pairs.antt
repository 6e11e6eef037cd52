-- Flows that run in a system of which only changes are solved and in one that is solved as a
-- whole.
use Rattle.std.specs.Prelude.{◌≡◌, ◌<◌, ℕ, Option, None, Some, IsSome, List, length, slice_index_or}
use Rattle.sg_maxmin.specs.Sharing.{Sharing, flow_at}
use Rattle.sg_lazy.specs.RunningFlow.{running_at}
use Rattle.sg_lazy.specs.Lazily.{Lazily}

-- the number in a system of the flow that has this number in a `Lazy`
abbrev pub twin_of : List (Option ℕ) → ℕ → Option ℕ
twin_of twins id = slice_index_or twins id None

-- Each noted flow runs in both, and no two share a twin. Both have six resources.
pub record ArePaired (lazy : Lazily) (whole : Sharing) (twins : List (Option ℕ)) : Type 0 where
  pub lazy_resources : length lazy.capacities ≡ 6
  pub whole_resources : length whole.capacities ≡ 6
  pub run : (id twin : ℕ) → twin_of twins id ≡ Some twin → IsSome (running_at lazy.slots id)
  pub held : (id twin : ℕ) → twin_of twins id ≡ Some twin → IsSome (flow_at whole.slots twin)
  pub apart : (id other twin : ℕ) → twin_of twins id ≡ Some twin → twin_of twins other ≡ Some twin → id ≡ other

-- what is paired before is paired afterwards
abbrev pub StayPaired : Lazily → Lazily → Sharing → Sharing → Type 0
StayPaired lazy lazy' whole whole' = (twins : List (Option ℕ)) → ArePaired lazy whole twins → ArePaired lazy' whole' twins

-- the flows are paired, some numbers stand for flows, and resources are drawn from among six
pub record CanChange (drawn_from : ℕ) (lazy : Lazily) (whole : Sharing) (twins : List (Option ℕ)) : Type 0 where
  pub room : drawn_from ≡ 6
  pub numbers : 0 < length twins
  pub paired : ArePaired lazy whole twins
