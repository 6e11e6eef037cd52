-- What contracts see of `Activities`.
use Rattle.std.specs.Prelude.{◌≡◌, ◌≢◌, ℕ, ◌+◌, ◌-◌, ◌*◌, ◌^◌, ◌++◌, ◌==◌, ◌<◌, ◌≤◌, not, Bool, true, false, IsSome, IsTrue, OnOk, Option, None, Some, Result, List, [], ◌∷◌, All, AllPairs, filter, length, slice_index_or}
use Rattle.sg_base.specs.declared.ids.LinkId.{LinkId}
use Rattle.sg_base.specs.declared.memory.Memory.{Memory}
use Rattle.sg_base.specs.Limits.{IsAmount}
use Rattle.sg_activity_table.specs.declared.kinds.HostCap.{HostCap}
use Rattle.sg_activity_table.specs.declared.kinds.LinkCap.{LinkCap}
use Rattle.sg_activity_table.specs.declared.kinds.Phase.{Phase}
use Rattle.sg_activity.specs.Links.{machines}
use Rattle.sg_activity.specs.Stamp.{Stamp, stamped, anew, all_rerated}
use Rattle.sg_activity.specs.Task.{Task, Way, phase_after, task_at}
use Rattle.sg_activity.specs.Underway.{Underway, next_in, due_in, later, with_next_serial, started, begun, with_rates_updated, given_up, held, gone_on, hits, is_computing, is_kept, nothing_on, rate, with_task}

-- The running activities, the ids that complete now and haven't ended yet, whether the rates are up to date, room for so many starts, and by id the stamp of the running phase, or nothing.
pub record Doing : Type 0 where
  pub under : Underway
  pub due : List ℕ
  pub settled : Bool
  pub room : ℕ
  pub stamps : List (Option Stamp)

-- at first
abbrev pub idle_on : List HostCap → List LinkCap → Doing
idle_on hosts links = record {
  under = nothing_on (machines hosts links);
  due = [];
  settled = false;
  room = 0;
  stamps = [];
}

-- an activity id is drawn
abbrev pub drawn_in : Doing → Doing
drawn_in doing = record doing {
  under = with_next_serial doing.under;
  stamps = doing.stamps ++ None ∷ [];
}

-- a phase begins under the next activity id
abbrev pub started_in : Task → Doing → Doing
started_in task doing = record doing {
  under = started task doing.under;
  settled = false;
  room = doing.room - 1;
  stamps = doing.stamps ++ Some (stamped doing.under.date task) ∷ [];
}

-- a phase begins under this activity id
abbrev pub begun_in : ℕ → Task → Doing → Doing
begun_in serial task doing = record doing {
  under = begun serial task doing.under;
  settled = false;
  room = doing.room - 1;
  stamps = anew serial (begun serial task doing.under) doing.stamps;
}

-- The rates are up to date. A phase that completed and hasn't ended completes again at the next date reached.
abbrev pub settled_in : Doing → Doing
settled_in doing = record doing {
  under = with_rates_updated doing.under;
  due = [];
  settled = true;
  stamps = all_rerated doing.under doing.stamps;
}

-- so many nanoseconds later the phases whose time this is complete, and no stamp changed
abbrev pub later_in : ℕ → Doing → Doing
later_in span doing = record doing { under = later span doing.under; due = due_in span doing.under }

-- the phase of this activity id ends, and what follows it begins
abbrev pub ended : ℕ → Underway → Underway
ended serial under = with_task serial (phase_after (task_at under.tasks serial)) under

-- the first phase that completes now has ended
abbrev pub ended_first : List ℕ → Doing → Doing
ended_first [] doing = doing
ended_first (serial ∷ more) doing = record doing {
  under = ended serial doing.under;
  due = more;
  settled = false;
  stamps = anew serial (ended serial doing.under) doing.stamps;
}

abbrev pub ended_in : Doing → Doing
ended_in doing = ended_first doing.due doing

-- The running activities change so, and the rates are not up to date.
abbrev pub set_in : (Underway → Underway) → Doing → Doing
set_in change doing = record doing { under = change doing.under; settled = false }

-- Something is turned on or off, which changes no rate.
abbrev pub switched_in : (Underway → Underway) → Doing → Doing
switched_in change doing = record doing { under = change doing.under }

-- the activity ids without this one
abbrev pub without : ℕ → List ℕ → List ℕ
without serial serials = filter (λ other. not (other == serial)) serials

-- the activity of this id is given up, and no longer completes
abbrev pub gave_up : ℕ → Doing → Doing
gave_up serial doing = record doing {
  under = given_up serial doing.under;
  due = without serial doing.due;
  settled = false;
  stamps = anew serial (given_up serial doing.under) doing.stamps;
}

-- the execution of this activity id is suspended, and no longer completes
abbrev pub held_in : ℕ → Doing → Doing
held_in serial doing = record doing {
  under = held serial doing.under;
  due = without serial doing.due;
  settled = false;
  stamps = anew serial (held serial doing.under) doing.stamps;
}

-- the suspended execution is resumed
abbrev pub went_on_in : ℕ → Doing → Doing
went_on_in serial doing = record doing {
  under = gone_on serial doing.under;
  settled = false;
  room = doing.room - 1;
  stamps = anew serial (gone_on serial doing.under) doing.stamps;
}

-- this activity id is the first of those that use something that is off
pub record IsHit (doing : Doing) (serial : ℕ) : Type 0 where
  pub rest : List ℕ
  pub first : hits doing.under ≡ serial ∷ rest
  pub task : Task
  pub at : task_at doing.under.tasks serial ≡ Some task
  pub from : 0 < serial
  pub to : serial ≤ length doing.under.tasks

-- There is room for so many starts, unless memory was lacking. Nothing else changes, and the room doesn't shrink.
pub record MakesRoom (n : ℕ) (old new : Doing) (done : Result Unit Memory) : Type 0 where
  pub room : OnOk done (n ≤ new.room)
  pub grows : old.room ≤ new.room
  pub kept : new ≡ record old { room = new.room }

-- ---- what is asked for
-- there is room for a start, and activity ids remain
pub record CanStart (doing : Doing) : Type 0 where
  pub room : 0 < doing.room
  pub few : length doing.under.tasks < 10 ^ 9

-- there is room for the activity of this id, which was drawn, and which isn't running
pub record CanBegin (doing : Doing) (serial : ℕ) : Type 0 where
  pub from : 0 < serial
  pub to : serial ≤ length doing.under.tasks
  pub idle : task_at doing.under.tasks serial ≡ None
  pub room : 0 < doing.room

-- an activity of this id is running
pub record IsUnderWay (doing : Doing) (serial : ℕ) : Type 0 where
  pub from : 0 < serial
  pub under_way : IsSome (task_at doing.under.tasks serial)

-- it is an execution that isn't suspended
pub record IsComputing (doing : Doing) (serial : ℕ) : Type 0 where
  pub from : 0 < serial
  pub computes : IsTrue (is_computing doing.under serial)

-- or one that is held, and there is room for its start
pub record CanGoOn (doing : Doing) (serial : ℕ) : Type 0 where
  pub from : 0 < serial
  pub held : IsTrue (is_kept doing.under serial)
  pub room : 0 < doing.room

-- the route over these links, from one host to another
abbrev pub way_of : List LinkId → ℕ → ℕ → Way
way_of links sender receiver = record { links = links; sender = sender; receiver = receiver }

-- The links and hosts exist, are all different links, at least one and 64 at most; the latency and the bytes keep to their limits.
pub record IsTransfer (under : Underway) (way : Way) (lasts amount : ℕ) : Type 0 where
  pub some : way.links ≢ []
  pub apart : AllPairs (λ a b. a ≢ b) way.links
  pub exist : All (λ (link : LinkId). link.0 < length under.capacities.links) way.links
  pub few : length way.links ≤ 64
  pub sender : way.sender < length under.capacities.hosts
  pub receiver : way.receiver < length under.capacities.hosts
  pub latency : lasts ≤ 10 ^ 20
  pub bytes : IsAmount amount

-- this phase is the first that completes now
pub record IsDue (doing : Doing) (phase : Phase) : Type 0 where
  pub rest : List ℕ
  pub first : doing.due ≡ phase.serial.0 ∷ rest
  pub task : Task
  pub at : task_at doing.under.tasks phase.serial.0 ≡ Some task
  pub kind : task.kind ≡ phase.kind
  pub from : 0 < phase.serial.0
  pub to : phase.serial.0 ≤ length doing.under.tasks

-- the next phase completes at this date
pub record IsNext (doing : Doing) (date : ℕ) : Type 0 where
  pub from : doing.under.date ≤ date
  pub in_time : next_in doing.under ≡ Some (date - doing.under.date)
  pub soon : date ≤ doing.under.date + 10 ^ 24

-- no more nanoseconds than this; none: as many as there may be
abbrev pub IsUpTo : ℕ → Option ℕ → Type 0
IsUpTo span None = Unit {0}
IsUpTo span (Some time) = span ≤ time

-- The remaining work of a phase follows from its stamp, which is of now or of an earlier date; once the rates are up to date its rate is the
-- stamp's.
pub record IsStamp (doing : Doing) (task : Task) (stamp : Stamp) : Type 0 where
  pub from : stamp.date ≤ doing.under.date
  pub left : task.left ≡ stamp.left - stamp.rate * (doing.under.date - stamp.date)
  pub rate : IsTrue doing.settled → rate doing.under task ≡ stamp.rate

-- each running phase has its stamp
abbrev pub HaveStamps : Doing → Type 0
HaveStamps doing =
    (serial : ℕ) (task : Task) → 0 < serial → serial ≤ length doing.under.tasks →
    task_at doing.under.tasks serial ≡ Some task →
    (stamp : Stamp) × (slice_index_or doing.stamps (serial - 1) None ≡ Some stamp)
    × IsStamp doing task stamp
