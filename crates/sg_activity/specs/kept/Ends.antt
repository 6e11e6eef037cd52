-- Which phase completes first, and what its end changes.
use Rattle.std.specs.Prelude.{◌≡◌, ℕ, ◌-◌, ◌<◌, false, Option, Some, IsTrue}
use Rattle.sg_activity_table.specs.declared.kinds.PhaseKind.TheVariants as phase
use Rattle.sg_activity.specs.declared.activity_state.Kept.{Kept}
use Rattle.sg_activity_table.specs.declared.lives.Live.{Live}
use Rattle.sg_activity.specs.Task.{Task, rekinded}
use Rattle.sg_activity.specs.Underway.{with_task}
use Rattle.sg_activity_table.specs.Pool.{slot_at}
use Rattle.sg_activity.specs.kept.State.{State, state_of, task_of, under_of, is_now}
use Rattle.sg_activity.specs.kept.Sound.{IsSound}
use Rattle.sg_activity.specs.kept.Turns.{Turns}

-- no running phase completes now
abbrev pub IsIdle : State → Type 0
IsIdle s = IsTrue s.arrived → (key : ℕ) (live : Live) → slot_at s.slots key ≡ Some live → is_now s key live ≡ false

-- The phase of the activity under the key completes now, and none of a lower activity id does.
pub record IsFirst (s : State) (key : ℕ) (live : Live) : Type 0 where
  pub arrived : IsTrue s.arrived
  pub at : slot_at s.slots key ≡ Some live
  pub now : IsTrue (is_now s key live)
  pub first : (other : ℕ) (its : Live) → slot_at s.slots other ≡ Some its → its.serial < live.serial → is_now s other its ≡ false

-- The phase of the activity under the key completed, or is suspended: this one, or none, replaces it, and is dated only once the rates are up to date.
pub record Ends (old new : Kept) (key : ℕ) (live : Live) (after : Option Task) : Type 0 where
  pub slot : Option Live
  pub turns : Turns (state_of old) (state_of new) key live.serial slot
  pub under : under_of (state_of new) ≡ with_task live.serial after (under_of (state_of old))
  pub drawn : new.drawn ≡ old.drawn
  pub sound : IsSound new
  pub room : new.room ≡ old.room

-- The suspended execution under the key is resumed. It takes the room of a start.
pub record GoesOn (old new : Kept) (key : ℕ) (live : Live) : Type 0 where
  pub slot : Option Live
  pub turns : Turns (state_of old) (state_of new) key live.serial slot
  pub under : under_of (state_of new) ≡ with_task live.serial (Some (rekinded phase.Exec (task_of (state_of old) key live))) (under_of (state_of old))
  pub drawn : new.drawn ≡ old.drawn
  pub sound : IsSound new
  pub room : new.room ≡ old.room - 1
