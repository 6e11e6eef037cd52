-- Which activities use something that is off.
use Rattle.std.specs.Prelude.{◌≡◌, ℕ, ◌+◌, ◌<◌, ◌≤◌, ◌^◌, Bool, Option, None, Some, if◌then◌else◌, List, length, slice_set}
use Rattle.sg_base.specs.declared.ids.LinkId.{LinkId}
use Rattle.sg_base.specs.MarkSet.{is_in}
use Rattle.sg_heap.specs.Agenda.{Key, key_at}
use Rattle.sg_activity.specs.declared.activity_state.Kept.{Kept}
use Rattle.sg_activity_table.specs.declared.lives.Live.{Live}
use Rattle.sg_activity.specs.Links.{Switches}
use Rattle.sg_activity.specs.Task.{uses_off}
use Rattle.sg_activity_table.specs.Pool.{slot_at}
use Rattle.sg_activity.specs.kept.State.{State, state_of, ways_of, links_at, place_of}
use Rattle.sg_activity.specs.kept.Sound.{IsPlace, IsSound, place_at}

-- the id of an activity, with no date, if it uses something that is off
abbrev pub hit_in : Switches → List LinkId → Option Live → Option Key
hit_in on links None = None
hit_in on links (Some live) =
    if uses_off on (place_of live.place links)
    then Some (record { date = 0; serial = live.serial })
    else None

-- the activity of this id has begun under a key, and uses something that is off, or doesn't
abbrev pub noted : Bool → ℕ → ℕ → List (Option Key) → List (Option Key)
noted off key serial hits =
    if off then slice_set hits key (Some (record { date = 0; serial = serial })) else hits

-- by key the activities that use something that is off
pub record AreHits (on : Switches) (slots : List (Option Live)) (ways : ℕ → List LinkId) (hits : List (Option Key)) : Type 0 where
  pub each : (key : ℕ) → key_at hits key ≡ hit_in on (links_at ways key) (slot_at slots key)
  pub long : length slots ≤ length hits

abbrev pub AreHit : Kept → List (Option Key) → Type 0
AreHit kept hits = AreHits (state_of kept).on kept.lives.slots (ways_of kept) hits

-- Each host and each link is on or off, and all of them and the hosts as ends can be counted, the links in 32 bits.
abbrev pub AreOn : State → Type 0
AreOn s =
    (length s.on.hosts ≡ length s.capacities.hosts)
    × ((length s.on.links ≡ length s.capacities.links)
    × ((length s.capacities.hosts + length s.capacities.links + length s.capacities.hosts < 2 ^ 64)
    × (length s.capacities.links ≤ 2 ^ 32)))

abbrev pub AreSwitches : Kept → Type 0
AreSwitches kept = AreOn (state_of kept)

-- the place of each activity exists
abbrev pub ArePlaced : Kept → Type 0
ArePlaced kept = (key : ℕ) (live : Live) → slot_at kept.lives.slots key ≡ Some live → IsPlace (state_of kept).capacities (place_at (state_of kept) key live)

-- under these keys are the activities that use something that is off, and under the others what was there
pub record AreLooked (on : Switches) (slots : List (Option Live)) (ways : ℕ → List LinkId) (old new : List (Option Key)) (keys : List ℕ) : Type 0 where
  pub each : (key : ℕ) → key_at new key ≡ (if is_in key keys then hit_in on (links_at ways key) (slot_at slots key) else key_at old key)
  pub long : length new ≡ length old

-- These are on now, and nothing else changed.
pub record Flips (old new : Kept) (on : Switches) : Type 0 where
  pub state : state_of new ≡ record (state_of old) { on = on }
  pub sound : IsSound new
  pub index : new.index ≡ old.index
  pub room : new.room ≡ old.room
