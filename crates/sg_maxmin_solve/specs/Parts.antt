-- What a rate update has solved: a closed set of flows and resources, which grows by closed parts.
use Rattle.std.specs.Prelude.{◌≡◌, ℕ, ◌+◌, ◌*◌, ◌<◌, ◌≤◌, Bool, true, false, Some, All, List, IsSome, IsTrue, is_some, length, slice_index}
use Rattle.sg_base.specs.MarkSet.{MarkSet, is_in}
use Rattle.sg_maxmin.specs.Chained.{users_on}
use Rattle.sg_maxmin.specs.Fill.{level_of}
use Rattle.sg_maxmin.specs.Sharing.{Sharing, flow_at, held}
use Rattle.sg_maxmin.specs.Held.{IsHold}
use Rattle.sg_maxmin.specs.Found.{PassAlong}
use Rattle.sg_maxmin_solve.specs.declared.component.Component.{Component}
use Rattle.sg_maxmin_solve.specs.declared.filling.Filling.{Filling}
use Rattle.sg_maxmin_solve.specs.declared.parts.Parts.{Parts}
use Rattle.sg_maxmin_solve.specs.Component.{AllPass, Grows, IsClosedBy, IsOpen, PassAlong as PassRows, StaysWithin, touched_uses}
use Rattle.sg_maxmin_solve.specs.Dates.{IsIdle}
use Rattle.sg_maxmin.specs.Numbered.{flow_in}
use Rattle.sg_maxmin_solve.specs.Filling.{HasPlaces, HasResources, fixed_at}

-- the level of a flow in the whole
abbrev pub level_in_all : Sharing → ℕ → ℕ
level_in_all s id = level_of s.capacities (held s.slots) (flow_in s.slots id)

-- What is touched and reached shares with no other, and nobody waits; each of its flows has its level in the whole, and each of its resources its hold.
pub record IsFilled (s : Sharing) (component : Component) (filling : Filling) : Type 0 where
  pub ready : IsOpen s component
  pub closed : IsClosedBy s component
  pub held : AllPass (λ id. is_some (flow_at s.slots id)) component.touched.members
  pub exist : All (λ c. c < length s.capacities) component.reached.members
  pub places : HasPlaces s filling
  pub idle : IsIdle filling
  pub levels : (id : ℕ) → is_in id component.touched.members ≡ true → fixed_at filling.fixed.items id ≡ Some (level_in_all s id)
  pub holds : (c : ℕ) → is_in c component.reached.members ≡ true → IsHold (slice_index s.capacities c) s.slots filling.fixed.items (users_on s.users c) (fixed_at filling.holds.items c)

-- and the resource is one
pub record IsFilledAt (s : Sharing) (component : Component) (filling : Filling) (resource : ℕ) : Type 0 where
  pub filled : IsFilled s component filling
  pub exists : resource < length s.capacities

-- and the flow is held, and isn't touched yet
pub record IsFilledBut (s : Sharing) (component : Component) (filling : Filling) (flow : ℕ) : Type 0 where
  pub filled : IsFilled s component filling
  pub held : IsSome (flow_at s.slots flow)
  pub untouched : is_in flow component.touched.members ≡ false

-- visits that suffice for the touched flows: six to each use: two reach it, one begins, and the others find and fix the flow
abbrev pub part_looks : Sharing → Component → ℕ
part_looks s component = 6 * touched_uses s component

-- more is touched and reached, and solved, by so many visits
pub record FillsOn (s : Sharing) (old new : Component) (filling : Filling) (before after : ℕ) : Type 0 where
  pub filled : IsFilled s new filling
  pub touched : Grows old.touched.members new.touched.members
  pub reached : Grows old.reached.members new.reached.members
  pub looks : after + part_looks s old ≤ before + part_looks s new

-- Of a solve from a start: what begins there and its connected component are touched and reached, nothing else.
pub record FillsFrom (s : Sharing) (Starts : (ℕ → Bool) → (ℕ → Bool) → Type 0) (old new : Component) (filling : Filling) (before after : ℕ) : Type 0 where
  pub on : FillsOn s old new filling before after
  pub there : Starts (λ id. is_in id new.touched.members) (λ r. is_in r new.reached.members)
  pub least : (p q : ℕ → Bool) → PassRows s p q → Starts p q → StaysWithin p q old new

-- the test holds of the numbers that haven't ended
abbrev pub RunningPass : List ℕ → List ℕ → (ℕ → Bool) → Type 0
RunningPass numbers ended test = (id : ℕ) → is_in id numbers ≡ true → is_in id ended ≡ false → IsTrue (test id)

-- flows under these numbers are held, except for those that ended
pub record AreHeldUnless (s : Sharing) (ended : MarkSet) (numbers : List ℕ) : Type 0 where
  pub room : length s.slots ≤ ended.room
  pub below : (i : ℕ) → i < length numbers → slice_index numbers i < length s.slots
  pub held : (i : ℕ) → i < length numbers → is_in (slice_index numbers i) ended.members ≡ false → IsSome (flow_at s.slots (slice_index numbers i))

-- The connected components of the marked flows that haven't ended, and of the resources: these, and all that a flow or a resource of them leads to.
pub record IsJoinedTo (s : Sharing) (marked ended resources touched reached : List ℕ) : Type 0 where
  pub along : PassAlong s (λ id. is_in id touched) (λ r. is_in r reached)
  pub flows_there : (id : ℕ) → is_in id marked ≡ true → is_in id ended ≡ false → IsTrue (is_in id touched)
  pub resources_there : (r : ℕ) → is_in r resources ≡ true → IsTrue (is_in r reached)
  pub least : (p q : ℕ → Bool) → PassAlong s p q → ((id : ℕ) → is_in id marked ≡ true → is_in id ended ≡ false → IsTrue (p id)) → ((r : ℕ) → is_in r resources ≡ true → IsTrue (q r))
      → ((id : ℕ) → is_in id touched ≡ true → IsTrue (p id)) × ((r : ℕ) → is_in r reached ≡ true → IsTrue (q r))

-- there is room for flows of numbers below so many, and for exactly so many resources, and nobody waits
pub record IsReady (numbers resources : ℕ) (parts : Parts) : Type 0 where
  pub touched : numbers ≤ parts.component.touched.room
  pub fixed : numbers ≤ length parts.filling.fixed.items
  pub reached : parts.component.reached.room ≡ resources
  pub filling : HasResources resources parts.filling
