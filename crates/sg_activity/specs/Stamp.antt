-- What was left of phases at which date, and how fast they went from then on.
use Rattle.std.specs.Prelude.{ℕ, ◌+◌, ◌-◌, ◌==◌, ◌&&◌, not, Option, None, option_and_then, option_map, if◌then◌else◌, List, length, slice_index_or, slice_set}
use Rattle.sg_activity_table.specs.Slots.{listed}
use Rattle.sg_activity.specs.Task.{Task, task_at}
use Rattle.sg_activity_table.specs.Kinds.{pace, takes_share}
use Rattle.sg_activity.specs.Underway.{Underway, rate}

-- what was left of a phase at a date, and how much a nanosecond takes of it from then on
pub record Stamp : Type 0 where
  pub left : ℕ
  pub date : ℕ
  pub rate : ℕ

-- the stamp of a phase that begins, is suspended or resumed at this date: it has no share yet
abbrev pub stamped : ℕ → Task → Stamp
stamped date task = record {
  left = task.left;
  date = date;
  rate = if takes_share task.kind then 0 else pace task.kind;
}

-- by activity id the stamps, if only the phase of this id changed
abbrev pub anew : ℕ → Underway → List (Option Stamp) → List (Option Stamp)
anew serial under stamps =
    slice_set stamps (serial - 1)
    (option_map (stamped under.date) (task_at under.tasks serial))

-- The stamp once the rates are up to date. It changes only if the phase takes a share and has another rate now: to the remaining
-- work now.
abbrev pub rerated : Underway → Task → Stamp → Stamp
rerated under task stamp =
    if takes_share task.kind && not (rate under task == stamp.rate)
    then record { left = task.left; date = under.date; rate = rate under task }
    else stamp

-- that of the phase under an activity id
abbrev pub rerated_at : Underway → List (Option Stamp) → ℕ → Option Stamp
rerated_at under stamps serial =
    option_and_then (λ task.
    option_map (rerated under task) (slice_index_or stamps (serial - 1) None))
    (task_at under.tasks serial)

-- those of all activity ids
abbrev pub all_rerated : Underway → List (Option Stamp) → List (Option Stamp)
all_rerated under stamps = listed (length under.tasks) (λ i. rerated_at under stamps (i + 1))
