-- All that `Activities` keeps is consistent.
use Rattle.std.specs.Prelude.{◌≡◌, ℕ, Option, Some, List, All, IsTrue, length, replicate}
use Rattle.sg_base.specs.MarkSet.{MarkSet}
use Rattle.sg_heap.specs.Agenda.{Key}
use Rattle.sg_energy.specs.Meter.{Metered}
use Rattle.sg_activity.specs.declared.activity_state.Kept.{Kept}
use Rattle.sg_activity_table.specs.declared.kinds.HostCap.{HostCap}
use Rattle.sg_activity_table.specs.declared.kinds.LinkCap.{LinkCap}
use Rattle.sg_activity_table.specs.declared.lives.Live.{Live}
use Rattle.sg_activity.specs.Doing.{idle_on}
use Rattle.sg_activity.specs.Hosts.{IsHost}
use Rattle.sg_activity.specs.kept.Hits.{AreHit, AreSwitches}
use Rattle.sg_activity.specs.kept.Index.{IsIndexed}
use Rattle.sg_activity.specs.kept.Metered.{IsMetered, metered_in}
use Rattle.sg_activity_table.specs.Pool.{slot_at}
use Rattle.sg_activity.specs.kept.Rows.{Indexed}
use Rattle.sg_activity.specs.kept.Sound.{IsSound}
use Rattle.sg_activity.specs.kept.State.{doing_of, state_of, ways_of}

-- the index has what the activities use
abbrev pub IsUsed : Kept → Indexed → Type 0
IsUsed kept index = IsIndexed (state_of kept).capacities kept.lives.slots (ways_of kept) kept.room index

pub record IsWhole (kept : Kept) (hits : List (Option Key)) (meters : List Metered) (touched : MarkSet) : Type 0 where
  pub sound : IsSound kept
  pub hosts : All IsHost kept.hosts.items
  pub used : IsUsed kept kept.index
  pub switches : AreSwitches kept
  pub hit : AreHit kept hits
  pub metered : IsMetered kept meters touched

-- The activity is under the key, and what is kept is consistent, with the index.
pub record IsLiveAt (kept : Kept) (key : ℕ) (live : Live) : Type 0 where
  pub at : slot_at kept.lives.slots key ≡ Some live
  pub sound : IsSound kept
  pub used : IsUsed kept kept.index

-- Hosts and links can be turned on and off: it is known which are on, what activities use, and which use what is
-- off.
pub record CanSwitch (kept : Kept) (hits : List (Option Key)) : Type 0 where
  pub sound : IsSound kept
  pub used : IsUsed kept kept.index
  pub switches : AreSwitches kept
  pub hit : AreHit kept hits

-- The rates are up to date, and the index has what the activities use: so loads can be computed.
pub record CanTell (kept : Kept) : Type 0 where
  pub sound : IsSound kept
  pub hosts : All IsHost kept.hosts.items
  pub used : IsUsed kept kept.index
  pub switches : AreSwitches kept
  pub settled : IsTrue kept.settled

-- No activity is running on these hosts and links.
pub record AreIdle (kept : Kept) (hits : List (Option Key)) (hosts : List HostCap) (links : List LinkCap) : Type 0 where
  pub sound : IsSound kept
  pub are_hosts : All IsHost kept.hosts.items
  pub used : IsUsed kept kept.index
  pub switches : AreSwitches kept
  pub hit : AreHit kept hits
  pub hosts_are : kept.hosts.items ≡ hosts
  pub date : kept.date ≡ 0
  pub told : metered_in (replicate (length hosts) 0) (doing_of (state_of kept) kept.room) ≡ idle_on hosts links
