-- Which activities fail in a time advance, and which complete.
use Rattle.std.specs.Prelude.{◌≡◌, ℕ, ◌+◌, ◌<◌, ◌&&◌, not, Bool, false, Option, None, Some, is_some, if◌then◌else◌, List, [], ◌∷◌, slice_set}
use Rattle.std.specs.List.{list_any}
use Rattle.sg_activity_table.specs.Slots.{is_over_after, passes}
use Rattle.sg_activity.specs.Links.{Switches}
use Rattle.sg_activity.specs.Task.{Task, is_hit, next_phase, task_at}
use Rattle.sg_activity.specs.Underway.{Underway, wait_in}
use Rattle.sg_profile.specs.declared.entry.Entry.{Entry}
use Rattle.sg_profile.specs.declared.entry.Entry.TheVariants as entry
use Rattle.sg_profile.specs.declared.turn.Turn.{Turn}
use Rattle.sg_profile.specs.Profiles.{entry_at, rows_due, turns_after_row}
use Rattle.sg_mailbox.specs.declared.owners.How.{How}
use Rattle.sg_mailbox.specs.declared.owners.How.TheVariants as how
use Rattle.sg_mailbox.specs.declared.owners.Whose.TheVariants.{Over}
use Rattle.sg_kernel.specs.Passes.{next_span, pass_of, settled}
use Rattle.sg_kernel_calls.specs.Setup.{Setup}
use Rattle.sg_kernel_calls.specs.Steps.{Step}
use Rattle.sg_kernel_calls.specs.World.{Core, whose_at}
use Rattle.sg_kernel_laws.specs.failures.Laws.{is_over}

-- which hosts and links are on after a profile entry
abbrev pub switched : Option Entry → Switches → Switches
switched None on = on
switched (Some (entry.Speed host speed)) on = on
switched (Some (entry.Bandwidth link bandwidth)) on = on
switched (Some (entry.HostOn host is)) on = record on { hosts = slice_set on.hosts host.0 is }
switched (Some (entry.LinkOn link is)) on = record on { links = slice_set on.links link.0 is }

-- and after each entry of these rows, one after another
unfoldable pub switches_behind : Setup → List ℕ → List Turn → Switches → List Switches
switches_behind setup [] turns on = []
switches_behind setup (row ∷ rows) turns on =
    switched (entry_at setup.profiles turns row) on
    ∷ switches_behind setup rows (turns_after_row setup.profiles row turns) (switched (entry_at setup.profiles turns row) on)

-- after each profile entry of the time advance by so many nanoseconds
abbrev pub switches_in : Setup → ℕ → Core → List Switches
switches_in setup span core =
    switches_behind setup (rows_due (core.under.date + span) setup.profiles core.turns) core.turns core.under.on

-- whether something that it uses is off after one of these
abbrev pub is_cut_in : Setup → ℕ → Core → Option Task → Bool
is_cut_in setup span core task = list_any (λ on. passes (is_hit on) task) (switches_in setup span core)

-- whether no other phase follows
abbrev pub is_last : Task → Bool
is_last task = not (is_some (next_phase task.kind task))

-- whether its last phase completes in so many nanoseconds
abbrev pub is_done_in : ℕ → Underway → Option Task → Bool
is_done_in span under task = passes (λ its. is_over_after (wait_in under its) span) task && passes is_last task

-- whether the activity completes or fails in that time advance
abbrev pub over_in : Setup → ℕ → Core → ℕ → Option How
over_in setup span core serial =
    if is_cut_in setup span core (task_at core.under.tasks serial) then Some how.Failed
    else if is_done_in span core.under (task_at core.under.tasks serial) then Some how.Done
    else None

-- Where the step isn't stopped the activity has ended so after it; and it has ended only so.
pub record EndsBy (expected : Option How) (serial : ℕ) (step : Step) : Type 0 where
  pub so : (over : How) → expected ≡ Some over → step.stop ≡ None → whose_at step.core serial ≡ Over over
  pub only : (over : How) → whose_at step.core serial ≡ Over over → expected ≡ Some over

-- So it is for each activity that has not ended before a time advance, where an event comes at some date.
abbrev pub TimeAdvancesFailWhatIsOff : Type 0
TimeAdvancesFailWhatIsOff = (setup : Setup) (core : Core) (span serial : ℕ) → next_span setup (settled core) ≡ Some span → 0 < serial → is_over (whose_at core serial) ≡ false →
    EndsBy (over_in setup span (settled core) serial) serial (pass_of setup core)
