-- What functions ask for, if more than one does, and what they do.
use Rattle.std.specs.Prelude.{◌≡◌, ℕ, ◌<◌, ◌≤◌, ◌^◌, Option, List, length}
use Rattle.sg_heap.specs.Agenda.{Key}
use Rattle.sg_energy.specs.Meter.{Metered, meter_of}
use Rattle.sg_activity.specs.declared.activity_state.Kept.{Kept}
use Rattle.sg_activity_table.specs.declared.kinds.PhaseKind.{PhaseKind}
use Rattle.sg_activity_table.specs.declared.kinds.PhaseKind.TheVariants as phase
use Rattle.sg_activity_table.specs.declared.lives.Live.{Live}
use Rattle.sg_activity.specs.Links.{Switches}
use Rattle.sg_activity.specs.kept.Hits.{AreHit, AreSwitches, ArePlaced, Flips}
use Rattle.sg_activity.specs.kept.Index.{used_in}
use Rattle.sg_activity.specs.kept.Rows.{row_at}
use Rattle.sg_activity.specs.kept.Sound.{IsPlace, place_at}
use Rattle.sg_activity.specs.kept.State.{state_of}
use Rattle.sg_activity.specs.kept.Whole.{CanTell, IsLiveAt, IsUsed}

-- ---- phases
-- the activity is under the key, and its phase is of this kind
pub record IsPhaseAt (kept : Kept) (key : ℕ) (live : Live) (what : PhaseKind) : Type 0 where
  pub kind : live.kind ≡ what
  pub there : IsLiveAt kept key live

-- the execution under the key is suspended, and there is room for its start
pub record IsHeldAt (kept : Kept) (key : ℕ) (live : Live) : Type 0 where
  pub kind : live.kind ≡ phase.Kept
  pub there : IsLiveAt kept key live
  pub room : 0 < kept.room

-- the phase of the activity under the key can end: it is known what uses what is off
pub record CanEnd (kept : Kept) (hits : List (Option Key)) (key : ℕ) (live : Live) : Type 0 where
  pub there : IsLiveAt kept key live
  pub hit : AreHit kept hits

-- it is known what the activities use, and which of them use what is off
pub record AreKnown (kept : Kept) (hits : List (Option Key)) : Type 0 where
  pub used : IsUsed kept kept.index
  pub hit : AreHit kept hits

-- ---- the place of an activity
-- the place of the activity exists, and the index has it under the activity's key
pub record IsPlacedAt (kept : Kept) (at : ℕ) (live : Live) : Type 0 where
  pub key : at < length kept.index.rows
  pub place : IsPlace (state_of kept).capacities (place_at (state_of kept) at live)
  pub row : row_at kept.index.rows at ≡ used_in kept at live

-- ---- what is off
-- it can be noted of each activity whether it uses something that is off
pub record CanLook (kept : Kept) (agenda : List (Option Key)) : Type 0 where
  pub used : IsUsed kept kept.index
  pub hits : length kept.lives.slots ≤ length agenda
  pub switches : AreSwitches kept
  pub placed : ArePlaced kept

-- These are on now, nothing else changed, and it is known which activities use what is off.
pub record IsSwitched (old new : Kept) (hits : List (Option Key)) (on : Switches) : Type 0 where
  pub flips : Flips old new on
  pub switches : AreSwitches new
  pub hit : AreHit new hits

-- ---- powers
-- the load of the host can be computed
pub record CanTellOf (kept : Kept) (one : ℕ) : Type 0 where
  pub host : one < length kept.hosts.items
  pub tell : CanTell kept

-- the meters can get the powers that hosts have now
pub record CanMeter (kept : Kept) (meter : List Metered) : Type 0 where
  pub few : length kept.hosts.items < 2 ^ 32
  pub tell : CanTell kept
  pub meters : length meter ≡ length kept.hosts.items
  pub past : (host : ℕ) → (meter_of meter host).since ≤ kept.date
