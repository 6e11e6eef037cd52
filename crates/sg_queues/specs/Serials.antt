-- Values by activity id: some have a place under the last digits of their ids, and the others are in a map.
use Rattle.std.specs.Prelude.{◌≡◌, ℕ, ◌==◌, nat_eq, bit_and, if◌then◌else◌, Option, None, Some, List, slice_index_or}
use Rattle.std.specs.HashMap as hash
use Rattle.sg_queues.specs.declared.by_serial.BySerial.{BySerial}
use Rattle.sg_queues.specs.declared.by_serial.Entry.{Entry}

-- the place of the entry of an activity id
abbrev pub place : ℕ → ℕ → ℕ
place mask serial = bit_and serial mask

module _ {T : Type 0} where
  -- the value of an entry, if it has this activity id
  abbrev pub value_in : Option (Entry T) → ℕ → Option T
  value_in None serial = None
  value_in (Some entry) serial = if entry.serial == serial then Some entry.value else None

  -- this value, or else that one
  abbrev pub or_else : Option T → Option T → Option T
  or_else None other = other
  or_else (Some value) other = Some value

  -- the value that these places and this map have under an activity id
  abbrev pub in_parts : List (Option (Entry T)) → ℕ → (ℕ → Option T) → ℕ → Option T
  in_parts near mask far serial = or_else (value_in (slice_index_or near (place mask serial) None) serial) (far serial)

  -- the value of an activity id
  unfoldable pub at : BySerial T → ℕ → Option T
  at map serial = in_parts map.near.items map.mask (hash.get nat_eq map.far) serial

  -- for so many more values there is room
  unfoldable pub room : BySerial T → ℕ
  room map = hash.spare map.far

  -- an activity id has this value now, or none, and all others have theirs
  abbrev pub Puts : ℕ → Option T → BySerial T → BySerial T → Type 0
  Puts serial value old new = (other : ℕ) → at new other ≡ (if serial == other then value else at old other)
