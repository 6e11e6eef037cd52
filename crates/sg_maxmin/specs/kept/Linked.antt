-- The uses on a resource, linked both ways.
use Rattle.std.specs.Prelude.{◌≡◌, ◌≢◌, ℕ, zero, suc, ◌+◌, ◌==◌, if◌then◌else◌, ◌⊎◌, ◌<◌, ◌≤◌, length, map, Option, None, Some, option_map, List, [], ◌∷◌, slice_index_or}
use Rattle.slab.specs.Slab.{Slab, HasRoomFor, slab_len}
use Rattle.sg_maxmin.specs.declared.uses.Use.{Use}
use Rattle.sg_maxmin.specs.declared.slots.Slot.{Slot}
use Rattle.sg_maxmin.specs.Chained.{times}
use Rattle.sg_maxmin.specs.kept.Slots.{nothing}

abbrev pub next_of : Option Slot → Option ℕ
next_of None = None
next_of (Some slot) = slot.next_on

abbrev pub flow_in : Option Slot → ℕ
flow_in None = 0
flow_in (Some slot) = slot.flow

-- a slot of this resource after that one
abbrev pub IsBehind : ℕ → Option ℕ → Option Slot → Type 0
IsBehind resource prev None = ⊥
IsBehind resource prev (Some slot) = (slot.resource ≡ resource) × (slot.prev_on ≡ prev)

-- these slots follow one another, from at on, the first after prev
abbrev pub Linked : ℕ → List (Option Slot) → Option ℕ → List ℕ → Option ℕ → Type 0
Linked resource slots prev [] at = at ≡ None
Linked resource slots prev (i ∷ list) at = (at ≡ Some i) × IsBehind resource prev (slice_index_or slots i None) × Linked resource slots (Some i) list (next_of (slice_index_or slots i None))

-- the last of a list, or what stood before it; the first of a list
abbrev pub last_of : Option ℕ → List ℕ → Option ℕ
last_of prev [] = prev
last_of prev (i ∷ list) = last_of (Some i) list

abbrev pub first_of : List ℕ → Option ℕ
first_of [] = None
first_of (i ∷ list) = Some i

abbrev pub In : {X : Type 0} → X → List X → Type 0
In x [] = ⊥
In x (y ∷ ys) = (y ≡ x) ⊎ In x ys

-- no number stands twice
abbrev pub Distinct : List ℕ → Type 0
Distinct [] = Unit {0}
Distinct (i ∷ list) = (In i list → ⊥) × Distinct list

abbrev pub with_prev : Option ℕ → Slot → Slot
with_prev prev slot = record slot { prev_on = prev }

abbrev pub with_next : Option ℕ → Slot → Slot
with_next next slot = record slot { next_on = next }

abbrev pub PointsFrom : Option ℕ → Type 0 → Type 0 → Type 0
PointsFrom None P Q = P
PointsFrom (Some at) P Q = Q

-- each slot stands in the one list of its resource, and no other does
pub record IsList (slots : List (Option Slot)) (on : List (Option ℕ)) (resource : ℕ) : Type 0 where
  pub list : List ℕ
  pub linked : Linked resource slots None list (slice_index_or on resource None)
  pub once : Distinct list
  pub all : (i : ℕ) (slot : Slot) → slice_index_or slots i None ≡ Some slot → slot.resource ≡ resource → In i list

pub record AreLists (slots : List (Option Slot)) (on : List (Option ℕ)) : Type 0 where
  pub lists : (resource : ℕ) → resource < length on → IsList slots on resource
  pub in_range : (i : ℕ) (slot : Slot) → slice_index_or slots i None ≡ Some slot → slot.resource < length on

-- and there is room for so many more slots, whose resources have a code
pub record CanHold (n : ℕ) (slots : Slab Slot) (on : List (Option ℕ)) : Type 0 where
  pub lists : AreLists slots.slots on
  pub few : length on ≤ nothing
  pub room : HasRoomFor slots n

-- as many slots, and no other room
pub record KeepsRoom (old new : Slab Slot) : Type 0 where
  pub len : slab_len new ≡ slab_len old
  pub capacity : new.capacity ≡ old.capacity

-- so many more slots, and no other room
pub record HoldsMore (n : ℕ) (fewer more : Slab Slot) : Type 0 where
  pub len : slab_len more ≡ slab_len fewer + n
  pub capacity : more.capacity ≡ fewer.capacity

-- what is shown of a slot
abbrev pub use_of : Slot → Use
use_of slot = record { flow = slot.flow; resource = slot.resource; next_of_flow = slot.next_of_flow; next_on = slot.next_on }

abbrev pub uses_of : List (Option Slot) → List (Option Use)
uses_of slots = map (option_map use_of) slots

-- what a use is to its flow
abbrev pub flow_part : Use → Use
flow_part one = record one { next_on = None }

-- a use of the resource by the flow, after which its next one stands
abbrev pub use_from : ℕ → ℕ → Option ℕ → Use
use_from flow resource next_of_flow = record { flow = flow; resource = resource; next_of_flow = next_of_flow; next_on = None }

-- whose use it is
abbrev pub user_in : Option Use → ℕ
user_in None = 0
user_in (Some one) = one.flow

-- except for the one number, the uses are to their flows what they were
abbrev pub SameBut : List (Option Use) → List (Option Use) → ℕ → Type 0
SameBut old new i = (j : ℕ) → j ≢ i → option_map flow_part (slice_index_or new j None) ≡ option_map flow_part (slice_index_or old j None)

-- the flows of so many slots in a row
unfoldable pub walked : ℕ → List (Option Slot) → Option ℕ → List ℕ
walked zero slots at = []
walked (suc n) slots None = []
walked (suc n) slots (Some i) = flow_in (slice_index_or slots i None) ∷ walked n slots (next_of (slice_index_or slots i None))

-- the flows on a resource
abbrev pub users_of : List (Option Slot) → List (Option ℕ) → ℕ → List ℕ
users_of slots on resource = walked (length slots) slots (slice_index_or on resource None)

-- a use of the flow comes in front of those on the resource
pub record GainsOne (old new : List (Option Slot)) (on on' : List (Option ℕ)) (resource flow : ℕ) : Type 0 where
  pub lists : AreLists new on'
  pub here : (other : ℕ) → times other (users_of new on' resource) ≡ times other (users_of old on resource) + (if other == flow then 1 else 0)
  pub elsewhere : (other : ℕ) → other ≢ resource → users_of new on' other ≡ users_of old on other

-- a use of the flow goes from the resource
pub record LosesOne (old new : List (Option Slot)) (on on' : List (Option ℕ)) (resource flow : ℕ) : Type 0 where
  pub lists : AreLists new on'
  pub here : (other : ℕ) → times other (users_of old on resource) ≡ times other (users_of new on' resource) + (if other == flow then 1 else 0)
  pub elsewhere : (other : ℕ) → other ≢ resource → users_of new on' other ≡ users_of old on other

-- on each resource the flow stands as many more times as the resource stands in the list, and each other flow as often as before
abbrev pub AreGained : List (Option Slot) → List (Option Slot) → List (Option ℕ) → List (Option ℕ) → ℕ → List ℕ → Type 0
AreGained fewer more on on' flow uses = (other resource : ℕ) → times other (users_of more on' resource) ≡ times other (users_of fewer on resource) + (if other == flow then times resource uses else 0)

-- the slots of `Chains`, and the first one on each resource
pub record IsChained (slots : Slab Slot) (on : List (Option ℕ)) : Type 0 where
  pub lists : AreLists slots.slots on
  pub fit : slab_len slots ≤ slots.capacity
  pub few : length on ≤ nothing
