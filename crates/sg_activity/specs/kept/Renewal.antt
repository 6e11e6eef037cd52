-- What bringing the rates up to date changes of the activities and their dates.
use Rattle.std.specs.Prelude.{◌≡◌, ℕ, ◌^◌, ◌<◌, ◌≤◌, Bool, false, not, ◌&&◌, Option, None, Some, option_map, if◌then◌else◌, List, length, slice_index, IsTrue, IsSome}
use Rattle.sg_base.specs.MarkSet.{MarkSet, is_in}
use Rattle.sg_heap.specs.Agenda.{Key, key_at}
use Rattle.sg_lazy.specs.Lazily.{Lazily}
use Rattle.sg_lazy.specs.RunningFlow.{RunningFlow, running_at}
use Rattle.sg_activity_table.specs.declared.lives.Live.{Live}
use Rattle.sg_activity_table.specs.Kinds.{takes_share}
use Rattle.sg_activity_table.specs.Pool.{Pool, slot_at}
use Rattle.sg_activity.specs.kept.Stamps.{left_at}
use Rattle.sg_activity.specs.kept.State.{date_of}

-- The flows whose rates changed run, and each is that of the activity under its key.
pub record IsKeyed (slots : List (Option Live)) (by_flow : List ℕ) (lazy : Lazily) (date id : ℕ) : Type 0 where
  pub runs : IsSome (running_at lazy.slots id)
  pub within : id < length by_flow
  pub live : Live
  pub there : slot_at slots (slice_index by_flow id) ≡ Some live
  pub full : IsTrue (takes_share live.kind)
  pub is : live.flow ≡ id
  pub stamped : live.stamp ≤ date
  pub alone : (key : ℕ) (other : Live) → slot_at slots key ≡ Some other → IsTrue (takes_share other.kind) → other.flow ≡ id → key ≡ slice_index by_flow id

abbrev pub HaveKeys : List (Option Live) → List ℕ → Lazily → ℕ → Type 0
HaveKeys slots by_flow lazy date = (id : ℕ) → IsTrue (is_in id lazy.changed) → IsKeyed slots by_flow lazy date id

-- the rate that a flow was given last
abbrev pub rate_in : Option RunningFlow → ℕ
rate_in None = 0
rate_in (Some running) = running.rate

-- whether the activity takes shares, and its flow is among these
abbrev pub is_among : List ℕ → Live → Bool
is_among flows live = takes_share live.kind && is_in live.flow flows

-- the activity from now on, if its flow is among these
abbrev pub restamped : List ℕ → List (Option RunningFlow) → ℕ → Live → Live
restamped flows runs date live =
    if is_among flows live
    then record live { kept = left_at live.kept live.rate live.stamp date; stamp = date; rate = rate_in (running_at runs live.flow) }
    else live

-- whether the activity under a key is one of these
abbrev pub is_renewed : List ℕ → Option Live → Bool
is_renewed flows None = false
is_renewed flows (Some live) = is_among flows live

-- The activities whose flows changed continue from now at their new rates, and the others are as before.
pub record AreRestamped (old new : Pool) (lazy : Lazily) (date : ℕ) : Type 0 where
  pub slots : (key : ℕ) → slot_at new.slots key ≡ option_map (restamped lazy.changed lazy.slots date) (slot_at old.slots key)
  pub long : length new.slots ≡ length old.slots
  pub room : new.room ≡ old.room

-- The activities whose flows changed aren't marked any more, and the others are as before.
pub record AreUnmarked (pool : Pool) (old new : MarkSet) (lazy : Lazily) : Type 0 where
  pub members : (key : ℕ) → is_in key new.members ≡ (is_in key old.members && not (is_renewed lazy.changed (slot_at pool.slots key)))
  pub room : new.room ≡ old.room

-- an amount and a stamp are small
pub record IsSmall (live : Live) : Type 0 where
  pub amount : live.kept ≤ 10 ^ 24
  pub stamp : live.stamp < 10 ^ 34

-- all of them are
abbrev pub AreSmall : List (Option Live) → Type 0
AreSmall slots = (key : ℕ) (live : Live) → slot_at slots key ≡ Some live → IsSmall live

-- the date of the activity under a key, if there is one, and its phase ever completes
abbrev pub date_in : Option Live → Option Key
date_in None = None
date_in (Some live) = date_of live

-- under these keys are the dates of the activities, and under the others what was there
abbrev pub AreRenewed : List (Option Key) → List (Option Key) → List (Option Live) → List ℕ → Type 0
AreRenewed old new slots keys = (key : ℕ) → key_at new key ≡ (if is_in key keys then date_in (slot_at slots key) else key_at old key)

-- The activities whose flows changed have their dates, and under the other keys is what was there.
pub record AreRedated (old new : List (Option Key)) (was now : Pool) (lazy : Lazily) : Type 0 where
  pub dates : (key : ℕ) → key_at new key ≡ (if is_renewed lazy.changed (slot_at was.slots key) then date_in (slot_at now.slots key) else key_at old key)
  pub long : length new ≡ length old
