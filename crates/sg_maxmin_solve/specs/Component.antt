-- What is touched and what is reached: numbers, and a row of numbers under each.
use Rattle.std.specs.Prelude.{◌≡◌, ◌≢◌, ℕ, Bool, false, AllPairs, IsSome, ◌<◌, ◌+◌, ◌≤◌, List, length, sum_by, slice_index, IsTrue}
use Rattle.sg_base.specs.MarkSet.{MarkSet, is_in}
use Rattle.sg_maxmin.specs.Chained.{users_on}
use Rattle.sg_maxmin.specs.Sharing.{Sharing, IsSound, flow_at, uses_at}
use Rattle.sg_maxmin_solve.specs.declared.component.Component.{Component}

-- the numbers come after those that were there
pub record Grows (old new : List ℕ) : Type 0 where
  pub longer : length old ≤ length new
  pub same : (i : ℕ) → i < length old → slice_index new i ≡ slice_index old i

-- each number of the row is there
abbrev pub AreIn : List ℕ → List ℕ → Type 0
AreIn row members = (i : ℕ) → i < length row → IsTrue (is_in (slice_index row i) members)

-- all resources of the touched flows are reached
abbrev pub Covers : (ℕ → List ℕ) → List ℕ → List ℕ → Type 0
Covers rows touched reached = (flow : ℕ) → IsTrue (is_in flow touched) → AreIn (rows flow) reached

-- how much the rows of these numbers hold
abbrev pub lengths : (ℕ → List ℕ) → List ℕ → ℕ
lengths rows numbers = sum_by (λ number. length (rows number)) numbers

-- all resources of the touched flows are reached, and all flows on the reached resources are touched
pub record IsClosure (flows users : ℕ → List ℕ) (touched reached : List ℕ) : Type 0 where
  pub covers : Covers flows touched reached
  pub covered : Covers users reached touched

-- the test holds of all members
abbrev pub AllPass : (ℕ → Bool) → List ℕ → Type 0
AllPass test members = (number : ℕ) → IsTrue (is_in number members) → IsTrue (test number)

-- the test holds of each number of the row
abbrev pub RowPasses : (ℕ → Bool) → List ℕ → Type 0
RowPasses test row = (i : ℕ) → i < length row → IsTrue (test (slice_index row i))

-- if the one test holds of a number, the other holds of its row
abbrev pub Passes : (ℕ → Bool) → (ℕ → Bool) → (ℕ → List ℕ) → Type 0
Passes one other rows = (number : ℕ) → IsTrue (one number) → RowPasses other (rows number)

-- what marking the numbers of a row does to a set
pub record MarksRow (row : List ℕ) (old new : MarkSet) : Type 0 where
  pub grows : Grows old.members new.members
  pub marked : AreIn row new.members
  pub room : new.room ≡ old.room
  pub few : length new.members ≤ length old.members + length row
  pub least : (test : ℕ → Bool) → RowPasses test row → AllPass test old.members → AllPass test new.members

-- the same of the rows of these numbers
pub record MarksRows (rows : ℕ → List ℕ) (numbers : List ℕ) (old new : MarkSet) : Type 0 where
  pub grows : Grows old.members new.members
  pub marked : (i : ℕ) → i < length numbers → AreIn (rows (slice_index numbers i)) new.members
  pub room : new.room ≡ old.room
  pub few : length new.members ≤ length old.members + lengths rows numbers
  pub least : (test : ℕ → Bool) → ((i : ℕ) → i < length numbers → RowPasses test (rows (slice_index numbers i))) → AllPass test old.members → AllPass test new.members

-- what reaching the resources of a flow does: each of its uses is visited once
pub record ReachesUses (s : Sharing) (flow : ℕ) (old new : MarkSet) (before after : ℕ) : Type 0 where
  pub marks : MarksRow (uses_at s.slots flow) old new
  pub looks : after ≡ before + length (uses_at s.slots flow)

-- the list has each member of the set once
pub record ListsOnce (set : MarkSet) (list : List ℕ) : Type 0 where
  pub members : list ≡ set.members
  pub once : AllPairs (λ a b. a ≢ b) list

-- there is room for all flows and all resources of a system, and what the touched flows use is reached
pub record IsOpen (s : Sharing) (component : Component) : Type 0 where
  pub sound : IsSound s
  pub touched_room : length s.slots ≤ component.touched.room
  pub reached_room : component.reached.room ≡ length s.capacities
  pub covers : Covers (uses_at s.slots) component.touched.members component.reached.members

-- and the flow is held, and isn't touched yet
pub record CanTouch (s : Sharing) (component : Component) (flow : ℕ) : Type 0 where
  pub ready : IsOpen s component
  pub held : IsSome (flow_at s.slots flow)
  pub untouched : is_in flow component.touched.members ≡ false

-- how many uses the touched flows have
abbrev pub touched_uses : Sharing → Component → ℕ
touched_uses s component = lengths (uses_at s.slots) component.touched.members

-- more is touched and reached, and what the touched flows use is reached
pub record Spreads (s : Sharing) (old new : Component) : Type 0 where
  pub touched : Grows old.touched.members new.touched.members
  pub reached : Grows old.reached.members new.reached.members
  pub covers : Covers (uses_at s.slots) new.touched.members new.reached.members
  pub touched_room : new.touched.room ≡ old.touched.room
  pub reached_room : new.reached.room ≡ old.reached.room
  pub few : length new.reached.members + touched_uses s old ≤ length old.reached.members + touched_uses s new

-- if the tests held of all that was touched and reached, they hold of all that is
abbrev pub StaysWithin : (ℕ → Bool) → (ℕ → Bool) → Component → Component → Type 0
StaysWithin one other old new =
    AllPass one old.touched.members → AllPass other old.reached.members → AllPass one new.touched.members × AllPass other new.reached.members

-- Of a spread from some flows: these are touched, and what they use is reached, nothing else.
pub record SpreadsFrom (s : Sharing) (Starts : (ℕ → Bool) → Type 0) (old new : Component) : Type 0 where
  pub spreads : Spreads s old new
  pub there : Starts (λ id. is_in id new.touched.members)
  pub least : (p q : ℕ → Bool) → Passes p q (uses_at s.slots) → Starts p → StaysWithin p q old new

-- all resources of the touched flows are reached, and all flows on the reached resources are touched
abbrev pub IsClosedBy : Sharing → Component → Type 0
IsClosedBy s component = IsClosure (uses_at s.slots) (users_on s.users) component.touched.members component.reached.members

-- all flows on the first so many resources are touched
pub record AreVisited (s : Sharing) (visited : ℕ) (component : Component) : Type 0 where
  pub within : visited ≤ length component.reached.members
  pub touched : (i : ℕ) → i < visited → AreIn (users_on s.users (slice_index component.reached.members i)) component.touched.members

-- a test of flows and one of resources hold along all uses, if the one or the other holds
pub record PassAlong (s : Sharing) (flows resources : ℕ → Bool) : Type 0 where
  pub uses : Passes flows resources (uses_at s.slots)
  pub users : Passes resources flows (users_on s.users)
