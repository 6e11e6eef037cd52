-- Entries in a binary heap, and for each slot the place of its entry.
use Rattle.std.specs.Prelude.{◌≡◌, ◌≢◌, ℕ, ◌+◌, ◌-◌, ◌*◌, ◌/◌, ◌<◌, ◌≤◌, nat_lt, if◌then◌else◌, Option, None, Some, List, length, map, slice_index, slice_index_or, slice_set}
use Rattle.sg_base.specs.declared.ids.Serial.{Serial}
use Rattle.sg_heap.specs.declared.entry.Entry.{Entry}
use Rattle.sg_heap.specs.Agenda.{Key, IsNoLater, digits, key, key_count, with_slots}

abbrev pub no_serial : Serial
no_serial = record { 0 = 0 }

abbrev pub no_entry : Entry
no_entry = record { date = 0; serial = no_serial; slot = 0 }

abbrev pub entry_at : List Entry → ℕ → Entry
entry_at heap i = slice_index_or heap i no_entry

abbrev pub key_of : Entry → Key
key_of entry = key entry.date entry.serial

-- the key of an entry that stands there, if that is among the first count
abbrev pub key_in : List Entry → ℕ → ℕ → Option Key
key_in heap count at = if nat_lt at count then Some (key_of (entry_at heap at)) else None

-- The key of each slot: the first count entries have keys, and the others are of slots without one.
unfoldable pub keys_of : List Entry → List ℕ → ℕ → List (Option Key)
keys_of heap place count = map (key_in heap count) place

-- Each slot has one entry, and its place is noted.
pub record ArePlaced (heap : List Entry) (place : List ℕ) : Type 0 where
  pub len : length heap ≡ length place
  pub slots : (i : ℕ) → i < length place → (entry_at heap i).slot < length place
  pub places : (slot : ℕ) → slot < length place → slice_index place slot < length place
  pub there : (i : ℕ) → i < length place → slice_index place (entry_at heap i).slot ≡ i
  pub back : (slot : ℕ) → slot < length place → (entry_at heap (slice_index place slot)).slot ≡ slot

-- the entry at the first place comes no later than that at the second
abbrev pub InOrder : List Entry → ℕ → ℕ → Type 0
InOrder heap a b = IsNoLater (key_of (entry_at heap a)) (key_of (entry_at heap b))

-- none of the first count entries comes before its parent
unfoldable pub IsHeap : List Entry → ℕ → Type 0
IsHeap heap count = (i : ℕ) → 0 < i → i < count → InOrder heap ((i - 1) / 2) i

-- no child of this place comes before the parent of this place
abbrev pub IsSpanned : List Entry → ℕ → ℕ → Type 0
IsSpanned heap count at =
    0 < at → (i : ℕ) → 0 < i → i < count → (i - 1) / 2 ≡ at → InOrder heap ((at - 1) / 2) i

-- a heap, except that the entry at this place may come before its parent
pub record MayRise (heap : List Entry) (count at : ℕ) : Type 0 where
  pub order : (i : ℕ) → 0 < i → i < count → i ≢ at → InOrder heap ((i - 1) / 2) i
  pub spanned : IsSpanned heap count at

-- a heap, except that the entry at this place may come after its children
pub record MaySink (heap : List Entry) (count at : ℕ) : Type 0 where
  pub order : (i : ℕ) → 0 < i → i < count → (i - 1) / 2 ≢ at → InOrder heap ((i - 1) / 2) i
  pub spanned : IsSpanned heap count at

-- a heap, except for both
pub record MayMove (heap : List Entry) (count at : ℕ) : Type 0 where
  pub order : (i : ℕ) → 0 < i → i < count → i ≢ at → (i - 1) / 2 ≢ at → InOrder heap ((i - 1) / 2) i
  pub spanned : IsSpanned heap count at

-- An entry in hand, which would have its place there, among the first count entries.
pub record IsInHand (heap : List Entry) (place : List ℕ) (count from : ℕ) (entry : Entry) : Type 0 where
  pub below : from < count
  pub fits : count ≤ length heap
  pub slot : entry.slot < length place
  pub placed : ArePlaced (slice_set heap from entry) (slice_set place entry.slot from)

-- What sifting leaves of these entries and places, of which the first count are a heap: the same keys.
pub record IsSifted (count : ℕ) (heap : List Entry) (place : List ℕ)
    (heap' : List Entry) (place' : List ℕ) : Type 0 where
  pub order : IsHeap heap' count
  pub placed : ArePlaced heap' place'
  pub keys : keys_of heap' place' count ≡ keys_of heap place count

-- An entry in hand, with which there is a heap, except that it may come before its parent there, or after its children.
pub record IsLooseInHand (heap : List Entry) (place : List ℕ) (count from : ℕ) (entry : Entry) : Type 0 where
  pub hand : IsInHand heap place count from entry
  pub loose : MayMove (slice_set heap from entry) count from

-- It has its place, above that one, there or below, by two comparisons for each digit of the count and one at most.
pub record Sifts (count from : ℕ) (entry : Entry) (heap : List Entry) (place : List ℕ)
    (heap' : List Entry) (place' : List ℕ) (before after : ℕ) : Type 0 where
  pub sifted : IsSifted count (slice_set heap from entry) (slice_set place entry.slot from) heap' place'
  pub most : after ≤ before + (2 * digits count + 1)

-- All slots have their places, those with a key come first, and these are a heap.
pub record IsAgenda (heap : List Entry) (place : List ℕ) (count : ℕ) : Type 0 where
  pub placed : ArePlaced heap place
  pub order : IsHeap heap count
  pub within : count ≤ length place
  pub counted : key_count (keys_of heap place count) ≡ count

-- an agenda, if the entry at this place has a key
pub record HasKeyAt (heap : List Entry) (place : List ℕ) (count at : ℕ) : Type 0 where
  pub agenda : IsAgenda heap place count
  pub below : at < count

-- Whatever the count, an agenda is one still, and it has so many slots at least.
pub record GrowsTo (slots : ℕ) (heap : List Entry) (place : List ℕ)
    (heap' : List Entry) (place' : List ℕ) : Type 0 where
  pub agenda : (count : ℕ) → IsAgenda heap place count → IsAgenda heap' place' count
  pub keys : (count : ℕ) → IsAgenda heap place count →
      keys_of heap' place' count ≡ with_slots slots (keys_of heap place count)

-- An agenda of some of so many slots, with room for all of them.
pub record HasSlots (heap : List Entry) (place : List ℕ) (count slots heap_room place_room : ℕ) : Type 0 where
  pub agenda : IsAgenda heap place count
  pub few : length place ≤ slots
  pub heap_fits : slots ≤ heap_room
  pub place_fits : slots ≤ place_room
