-- What comes at the dates to which time advances.
use Rattle.std.specs.Prelude.{◌≡◌, ◌≢◌, ℕ, ◌+◌, ◌-◌, ◌<◌, ◌≤◌, Bool, false, None, Some, List, [], ◌∷◌, filter}
use Rattle.sg_activity.specs.Doing.{Doing}
use Rattle.sg_activity.specs.Task.{task_at}
use Rattle.sg_profile.specs.declared.entry.Entry.{Entry}
use Rattle.sg_profile.specs.Profiles.{IsEntry, IsNextEntry, next_row, rows_due}
use Rattle.sg_platform_rows.specs.declared.network.Network.{Network}
use Rattle.sg_kernel_calls.specs.declared.simulation_state.Fields.{Fields}
use Rattle.sg_kernel_calls.specs.World.{Core}
use Rattle.sg_kernel.specs.Passes.{applied, changes, ends, next_span}
use Rattle.sg_kernel_calls.specs.Steps.{Step, each}
use Rattle.sg_kernel_calls.specs.kept.Sound.{core_of, latest, setup_in}

-- the rows whose next entry is of the date
abbrev pub rows_now : Fields → List ℕ
rows_now fields = rows_due fields.doing.under.date fields.profiles.profiles fields.profiles.turns

-- the row of the next entry
abbrev pub row_next : Fields → ℕ
row_next fields = next_row fields.profiles.profiles fields.profiles.turns

-- time advances to this date next, which is no later than a date may be after one more event
pub record IsNextDate (fields : Fields) (date : ℕ) : Type 0 where
  pub from : fields.doing.under.date ≤ date
  pub in_time : next_span (setup_in fields) (core_of fields) ≡ Some (date - fields.doing.under.date)
  pub soon : date ≤ latest (fields.events + 1)

-- this entry is the first of those of the date
pub record IsDueEntry (fields : Fields) (entry : Entry) : Type 0 where
  pub next : IsNextEntry fields.profiles fields.doing.under.date entry
  pub exists : IsEntry fields.setup.hosts fields.setup.links entry

-- an entry changed what it is of, whose rate is no longer up to date, unless that was only turned
-- on or off
pub record IsApplied (network : Network) (entry : Entry) (old new : Doing) : Type 0 where
  pub under : new.under ≡ applied network entry old.under
  pub due : new.due ≡ old.due
  pub room : new.room ≡ old.room

-- The date stays. What no longer completes then isn't running.
pub record LeavesDue (old new : Fields) : Type 0 where
  pub date : new.doing.under.date ≡ old.doing.under.date
  pub idle : (serial : ℕ) → task_at old.doing.under.tasks serial ≡ None → task_at new.doing.under.tasks serial ≡ None
  pub test : ℕ → Bool
  pub due : new.doing.due ≡ filter test old.doing.due
  pub gone : (serial : ℕ) → test serial ≡ false → task_at new.doing.under.tasks serial ≡ None

-- what comes at the date, in this order
abbrev pub coming : Fields → List (Core → Step)
coming fields =
    each (changes (setup_in fields)) (rows_now fields) ∷
    each (ends (setup_in fields)) fields.doing.due ∷
    []

-- no event is taken back; if some of these are to come and the budget isn't used up, there is one
pub record CountsSome (left : List ℕ) (old new : Fields) : Type 0 where
  pub more : old.events ≤ new.events
  pub some : old.events ≢ old.setup.budget → left ≢ [] → old.events < new.events
