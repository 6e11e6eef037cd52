-- What a max-min solve of connected components finds.
use Rattle.std.specs.Prelude.{◌≡◌, ℕ, ◌<◌, ◌≤◌, Bool, true, Option, Some, IsTrue, IsSome, List, All, length, slice_index}
use Rattle.sg_base.specs.MarkSet.{is_in}
use Rattle.sg_maxmin.specs.Chained.{users_on}
use Rattle.sg_maxmin.specs.Fill.{Flow, level_of}
use Rattle.sg_maxmin.specs.Sharing.{Sharing, flow_at, held, uses_at}
use Rattle.sg_maxmin.specs.Numbered.{level_at}
use Rattle.sg_maxmin.specs.Held.{IsHold}

-- a test of flows and one of resources hold along all uses, if the one or the other holds
pub record PassAlong (s : Sharing) (flows resources : ℕ → Bool) : Type 0 where
  pub uses : (id r : ℕ) → IsTrue (flows id) → is_in r (uses_at s.slots id) ≡ true → IsTrue (resources r)
  pub users : (r id : ℕ) → IsTrue (resources r) → is_in id (users_on s.users r) ≡ true → IsTrue (flows id)

-- these flows are held and have these max-min levels, and these resources hold their flows at these
pub record IsFound (s : Sharing) (flows resources : List ℕ) (levels holds : List (Option ℕ)) : Type 0 where
  pub flows_held : All (λ id. IsSome (flow_at s.slots id)) flows
  pub places : length s.slots ≤ length levels
  pub exist : All (λ r. r < length s.capacities) resources
  pub as_many : length holds ≡ length s.capacities
  pub filled : (id : ℕ) (flow : Flow) → flow_at s.slots id ≡ Some flow → is_in id flows ≡ true → level_at levels id ≡ Some (level_of s.capacities (held s.slots) flow)
  pub holds_are : (r : ℕ) → is_in r resources ≡ true → IsHold (slice_index s.capacities r) s.slots levels (users_on s.users r) (level_at holds r)
