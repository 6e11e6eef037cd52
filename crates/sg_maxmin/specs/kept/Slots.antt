-- How a slot is kept in 20 bytes of a slab, with numbers of 32 bits.
use Rattle.std.specs.Prelude.{◌≡◌, ◌<◌, ◌≤◌, ◌+◌, ◌==◌, ℕ, zero, suc, min, if◌then◌else◌, is_some, map, Option, None, Some, IfSome, option_map, List, [], ◌∷◌}
use Rattle.slab.specs.Slab.{Slab, get}
use Rattle.sg_maxmin.specs.declared.cells.Cell.{Cell}
use Rattle.sg_maxmin.specs.declared.slots.Slot.{Slot}

-- stands for a missing number, and is above all numbers
abbrev pub nothing : ℕ
nothing = 4294967295

-- the number for which a code stands
abbrev pub link_of : ℕ → Option ℕ
link_of code = if code == nothing then None else Some code

-- a number that has a code
abbrev pub IsSmall : Option ℕ → Type 0
IsSmall link = IfSome link (λ i. i < nothing)

-- the numbers of a slot have codes; that of its flow has 32 bits by its type
pub record AreSmall (slot : Slot) : Type 0 where
  pub resource : slot.resource < nothing
  pub next_of_flow : IsSmall slot.next_of_flow
  pub next_on : IsSmall slot.next_on
  pub prev_on : IsSmall slot.prev_on

-- the slot in a cell
abbrev pub slot_in : Cell → Slot
slot_in cell = record { flow = cell.flow; resource = cell.resource; next_of_flow = link_of cell.next_of_flow; next_on = link_of cell.next_on; prev_on = link_of cell.prev_on }

-- the slots in a slab of cells, with room for as many as there are numbers at most
abbrev pub slots_in : Slab Cell → Slab Slot
slots_in slab = record {
  slots = map (option_map slot_in) slab.slots;
  vacant_key = slab.vacant_key;
  capacity = min slab.capacity nothing;
}

-- all numbers of cells have 32 bits
abbrev pub AreNumbered : Slab Cell → Type 0
AreNumbered slab = (i : ℕ) → nothing ≤ i → get slab i ≡ None

-- how many of the first n numbers are taken
unfoldable pub taken : ℕ → List (Option Cell) → ℕ
taken zero cells = 0
taken (suc n) [] = 0
taken (suc n) (cell ∷ cells) = (if is_some cell then 1 else 0) + taken n cells

-- a number of 32 bits is free, for which the slab has room
abbrev pub HasNumber : Slab Cell → Type 0
HasNumber slab = taken (min slab.capacity nothing) slab.slots < min slab.capacity nothing
