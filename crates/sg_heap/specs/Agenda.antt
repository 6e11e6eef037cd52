-- Slots with keys, and the key that comes first.
use Rattle.std.specs.Prelude.{◌≡◌, ℕ, ◌-◌, ◌<◌, ◌≤◌, ◌⊎◌, Option, None, Some, is_some, List, ◌++◌, length, replicate, count_by, slice_index_or}
use Rattle.std.specs.Int.Digits.{digits_of}
use Rattle.sg_base.specs.declared.ids.Serial.{Serial}

-- when something completes, and the activity id that orders what completes at the same date
pub record Key : Type 0 where
  pub date : ℕ
  pub serial : ℕ

-- by date, then by activity id
abbrev pub IsNoLater : Key → Key → Type 0
IsNoLater a b = (a.date < b.date) ⊎ ((a.date ≡ b.date) × (a.serial ≤ b.serial))

-- the key of a slot, if it has one
abbrev pub key_at : List (Option Key) → ℕ → Option Key
key_at keys slot = slice_index_or keys slot None

-- how many slots have a key
abbrev pub key_count : List (Option Key) → ℕ
key_count keys = count_by is_some keys

-- This slot has this key, and no slot has one before it.
pub record IsLeast (keys : List (Option Key)) (slot : ℕ) (key : Key) : Type 0 where
  pub there : key_at keys slot ≡ Some key
  pub least : (other : ℕ) (its : Key) → key_at keys other ≡ Some its → IsNoLater key its

-- the key of a date and an activity id
abbrev pub key : ℕ → Serial → Key
key date serial = record { date = date; serial = serial.0 }

-- as many slots at least: those that come have no key
abbrev pub with_slots : ℕ → List (Option Key) → List (Option Key)
with_slots slots keys = keys ++ replicate (slots - length keys) None

-- how many binary digits a number has
unfoldable pub digits : ℕ → ℕ
digits n = length (digits_of 2 n)
