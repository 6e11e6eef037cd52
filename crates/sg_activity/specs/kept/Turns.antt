-- One activity replaces another, or begins, or ends.
use Rattle.std.specs.Prelude.{◌≡◌, ◌≢◌, ℕ, ◌<◌, ◌≤◌, false, Option, None, Some, length, slice_index, IsTrue}
use Rattle.sg_base.specs.MarkSet.{is_in}
use Rattle.sg_heap.specs.Agenda.{key_at}
use Rattle.sg_lazy.specs.RunningFlow.{RunningFlow, running_at}
use Rattle.sg_activity_table.specs.declared.lives.Live.{Live}
use Rattle.sg_activity_table.specs.Kinds.{takes_share}
use Rattle.sg_activity_table.specs.Pool.{slot_at}
use Rattle.sg_activity.specs.kept.State.{State, links_at}
use Rattle.sg_activity.specs.kept.Sound.{IsHeld, IsFlowOf}

-- Under the key is this activity now, or none, and nothing is in the agenda; all others are as they were.
pub record Turns (s new : State) (key serial : ℕ) (slot : Option Live) : Type 0 where
  pub capacities : new.capacities ≡ s.capacities
  pub resources : new.resources ≡ s.resources
  pub on : new.on ≡ s.on
  pub date : new.date ≡ s.date
  pub drawn : s.drawn ≤ new.drawn
  pub unsettled : new.settled ≡ false
  pub arrived : new.arrived ≡ s.arrived
  pub longer : length s.slots ≤ length new.slots
  pub within : key < length new.slots
  pub here : slot_at new.slots key ≡ slot
  pub others : (k : ℕ) → k ≢ key → slot_at new.slots k ≡ slot_at s.slots k
  pub ways : (k : ℕ) → k ≢ key → links_at new.ways k ≡ links_at s.ways k
  pub keys : (k : ℕ) → k ≢ key → key_at new.keys k ≡ key_at s.keys k
  pub no_key : key_at new.keys key ≡ None
  pub fresh : (k : ℕ) → k ≢ key → is_in k new.fresh ≡ is_in k s.fresh
  pub by_flow_long : length s.by_flow ≤ length new.by_flow
  pub flows : (k : ℕ) (live : Live) → k ≢ key → slot_at s.slots k ≡ Some live → IsTrue (takes_share live.kind) →
      (running_at new.runs live.flow ≡ running_at s.runs live.flow) × (slice_index new.by_flow live.flow ≡ slice_index s.by_flow live.flow)
  pub back : (id : ℕ) (running : RunningFlow) → running_at new.runs id ≡ Some running → IsFlowOf new id
  pub holds : (live : Live) → slot ≡ Some live → IsHeld new key live
  pub was : (live : Live) → slot_at s.slots key ≡ Some live → live.serial ≡ serial
  pub is : (live : Live) → slot ≡ Some live → live.serial ≡ serial
  pub stamped : (live : Live) → slot ≡ Some live → live.stamp ≡ new.date
  pub unrated : (live : Live) → slot ≡ Some live → IsTrue (takes_share live.kind) → live.rate ≡ 0
  pub alone : (k : ℕ) (other : Live) → k ≢ key → slot_at s.slots k ≡ Some other → other.serial ≢ serial
