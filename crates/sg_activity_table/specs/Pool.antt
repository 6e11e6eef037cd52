-- What contracts see of `Lives`.
use Rattle.std.specs.Prelude.{◌≡◌, ◌≢◌, ℕ, ◌+◌, ◌<◌, ◌≤◌, Bool, not, Option, None, Some, is_some, Result, OnOk, List, count_by, length, slice_index_or, slice_set}
use Rattle.slab.specs.Slab.{Slab, get, slab_len}
use Rattle.sg_base.specs.declared.memory.Memory.{Memory}
use Rattle.sg_activity_table.specs.declared.cells.Cell.{Cell}
use Rattle.sg_activity_table.specs.declared.kinds.PhaseKind.{PhaseKind}
use Rattle.sg_activity_table.specs.declared.kinds.PhaseKind.TheVariants as phase
use Rattle.sg_activity_table.specs.declared.kinds.Place.{Place}
use Rattle.sg_activity_table.specs.declared.kinds.Place.TheVariants as place
use Rattle.sg_activity_table.specs.declared.lives.Live.{Live}
use Rattle.sg_activity_table.specs.Slots.{passes}
use Rattle.sg_activity_table.specs.Kinds.{is_held}
use Rattle.sg_activity_table.specs.Cells.{lives_in}

-- the activity under each key, or nothing, and room for so many more activities
pub record Pool : Type 0 where
  pub slots : List (Option Live)
  pub room : ℕ

-- the activity under a key
abbrev pub slot_at : List (Option Live) → ℕ → Option Live
slot_at slots key = slice_index_or slots key None

-- under each key is what was there
abbrev pub SameSlots : List (Option Live) → List (Option Live) → Type 0
SameSlots old new = (key : ℕ) → slot_at new key ≡ slot_at old key

-- whether an activity progresses: a suspended execution doesn't
abbrev pub goes_on : Live → Bool
goes_on live = not (is_held live.kind)

-- the activity with what is left of it at another stamp, and its rate since
abbrev pub with_stamp : ℕ → ℕ → ℕ → Live → Live
with_stamp kept stamp rate live = record live { kept = kept; stamp = stamp; rate = rate }

-- how many links the route of a communication has
abbrev pub links_of : Place → ℕ
links_of (place.Over sender receiver links) = links
links_of other = 0

-- how many links a flow uses that begins once a phase of this kind completes, at this place
abbrev pub uses_ahead : PhaseKind → Place → ℕ
uses_ahead phase.Latency place = links_of place
uses_ahead other place = 0

-- no activity has this id
abbrev pub IsMissing : List (Option Live) → ℕ → Type 0
IsMissing slots serial = (k : ℕ) (live : Live) → slot_at slots k ≡ Some live → live.serial ≢ serial

-- there is room for an activity of this id, and none has it
pub record CanPut (serial : ℕ) (pool : Pool) : Type 0 where
  pub room : 0 < pool.room
  pub apart : IsMissing pool.slots serial

-- There is room for so many more, unless memory was lacking. The same activities are there, and the room doesn't shrink.
pub record MakesRoom (n : ℕ) (old new : Pool) (result : Result Unit Memory) : Type 0 where
  pub same : SameSlots old.slots new.slots
  pub longer : length old.slots ≤ length new.slots
  pub few : length new.slots ≤ length old.slots + n
  pub grows : old.room ≤ new.room
  pub room : OnOk result (n ≤ new.room)

-- the activity under the key has this id
pub record IsFound (slots : List (Option Live)) (serial key : ℕ) (live : Live) : Type 0 where
  pub at : slot_at slots key ≡ Some live
  pub is : live.serial ≡ serial

-- under the key is this activity now, or none, and there is as much room
pub record IsSet (old new : Pool) (key : ℕ) (slot : Option Live) : Type 0 where
  pub slots : new.slots ≡ slice_set old.slots key slot
  pub room : new.room ≡ old.room

-- by activity id the key of its activity, and nothing else
pub record FindsEach (slots : List (Option Live)) (find : ℕ → Option ℕ) : Type 0 where
  pub each : (key : ℕ) (live : Live) → slot_at slots key ≡ Some live → find live.serial ≡ Some key
  pub back : (serial key : ℕ) → find serial ≡ Some key → (live : Live) × IsFound slots serial key live

-- A key below this number is free, and the slab has room for it.
pub record HasFree (keys : ℕ) (slab : Slab Cell) : Type 0 where
  pub free : count_by is_some (lives_in keys slab) < keys
  pub fits : keys ≤ slab.capacity

-- The activities are all under keys below this number, for which the slab has room, and so many more are free at least.
pub record IsPool (keys : ℕ) (slab : Slab Cell) (room : ℕ) : Type 0 where
  pub above : (key : ℕ) → keys ≤ key → get slab key ≡ None
  pub fits : keys ≤ slab.capacity
  pub free : slab_len slab + room ≤ keys

-- All that `Lives` keeps is consistent.
pub record IsLives (keys : ℕ) (slab : Slab Cell) (find : ℕ → Option ℕ) (spare going room : ℕ) : Type 0 where
  pub pool : IsPool keys slab room
  pub keyed : FindsEach (lives_in keys slab) find
  pub goes : going ≡ count_by (passes goes_on) (lives_in keys slab)
  pub spare_room : room ≤ spare
