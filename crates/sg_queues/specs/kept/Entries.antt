-- How values are kept: a place for each slot, whose number stands under the slot. Free slots are idle.
use Rattle.std.specs.Prelude.{◌≡◌, ◌<◌, ◌≤◌, ℕ, List, length, map, slice_index_or}
use Rattle.sg_queues.specs.Rings.{Rings, IsApart, IsSlot}

-- stands under a head, which has no place
abbrev pub nowhere : ℕ
nowhere = 4294967295

-- the place of a node
abbrev pub home : List ℕ → ℕ → ℕ
home homes node = slice_index_or homes node nowhere

-- each slot has one of so many places, for itself
pub record AreHomes (rings : Rings) (homes : List ℕ) (places : ℕ) : Type 0 where
  pub few : places ≤ nowhere
  pub there : (slot : ℕ) → IsSlot rings.nodes rings.heads slot → home homes slot < places
  pub once : (a b : ℕ) → home homes a < places → home homes b ≡ home homes a → b ≡ a
  pub others : (node : ℕ) → places ≤ home homes node → home homes node ≡ nowhere

module _ {T : Type 0} where
  abbrev pub entry : T → List T → ℕ → ℕ × T
  entry blank values slot = (slot, slice_index_or values slot blank)

  abbrev pub entries_of : T → List T → List (List ℕ) → List (List (ℕ × T))
  entries_of blank values queues = map (map (entry blank values)) queues

  -- the value in a place
  abbrev pub value_in : T → List T → ℕ → T
  value_in blank values place = slice_index_or values place blank

  -- the value of each node
  abbrev pub by_node : T → List T → List ℕ → List T
  by_node blank values homes = map (value_in blank values) homes

-- the place of each node, of so many places; and so many free slots
pub record AreKept (rings : Rings) (homes : List ℕ) (places room : ℕ) : Type 0 where
  pub apart : IsApart rings
  pub homes_fit : length homes ≡ rings.nodes
  pub homes_are : AreHomes rings homes places
  pub free : room ≡ length rings.idle
