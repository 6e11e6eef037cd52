-- The slots of names.
use Rattle.std.specs.Prelude.{◌≡◌, ◌≤◌, ◌-◌, ◌++◌, ℕ, List, length, replicate, Some}
use Rattle.std.specs.Global.{Vec}
use Rattle.std.specs.HashMap.{HashMap}
use Rattle.std.specs.Int.{to_le_bytes, w64}
use Rattle.sg_platform_rows.specs.declared.names.Slot.{Slot}
use Rattle.sg_platform_rows.specs.kept.Finds.{finds}

-- the bytes of a short name, and zeros after them, are those of this number
abbrev pub IsKey : List ℕ → ℕ → Type 0
IsKey name key = to_le_bytes w64 key ≡ name ++ replicate (8 - length name) 0

-- a short name is in the slot
pub record IsIn (slot : Slot) (name : List ℕ) : Type 0 where
  pub short : length name ≤ 8
  pub key : IsKey name slot.key
  pub len : length name ≡ slot.len

-- no short name is in the slot but this one, and then with this number
abbrev pub IsSlotOf : List ℕ → ℕ → Slot → Type 0
IsSlotOf name number slot = (other : List ℕ) → IsIn slot other →
    (other ≡ name) × (slot.number ≡ number)

-- the short name in the slot has this number in the map
abbrev pub IsSlot : {S : Type 0} → HashMap (Vec ℕ) ℕ S → Slot → Type 0
IsSlot map slot = (name : List ℕ) → IsIn slot name → finds map name ≡ Some slot.number
