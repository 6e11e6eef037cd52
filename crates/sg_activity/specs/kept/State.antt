-- What is kept, and what it stands for.
use Rattle.std.specs.Prelude.{ℕ, suc, ◌+◌, ◌==◌, ◌||◌, ◌&&◌, Bool, false, Option, None, Some, option_map, option_and_then, if◌then◌else◌, List, [], ◌∷◌, length, map}
use Rattle.sg_base.specs.declared.ids.LinkId.{LinkId}
use Rattle.sg_base.specs.MarkSet.{is_in}
use Rattle.sg_heap.specs.Agenda.{Key, key_at}
use Rattle.sg_maxmin.specs.Fill.{Flow}
use Rattle.sg_lazy.specs.RunningFlow.{RunningFlow, running_at}
use Rattle.sg_activity.specs.declared.activity_state.Kept.{Kept}
use Rattle.sg_activity_table.specs.declared.kinds.Place.{Place as LivePlace}
use Rattle.sg_activity_table.specs.declared.kinds.Place.TheVariants as place_is
use Rattle.sg_activity_table.specs.declared.lives.Live.{Live}
use Rattle.sg_activity.specs.Doing.{Doing}
use Rattle.sg_activity.specs.Links.{Capacities, Switches, machines}
use Rattle.sg_activity_table.specs.Slots.{listed, passes, serials}
use Rattle.sg_activity.specs.Stamp.{Stamp}
use Rattle.sg_activity.specs.Task.{Place, nowhere, on_host, over, Task, flow_of}
use Rattle.sg_activity_table.specs.Kinds.{is_held, takes_share}
use Rattle.sg_activity.specs.Underway.{Underway}
use Rattle.sg_activity.specs.kept.Stamps.{left_at, due_of}
use Rattle.sg_activity_table.specs.Pool.{slot_at}
use Rattle.sg_activity.specs.kept.Rows.{row_at, way_in}

-- The kept state: by key the activities, the links of their routes and their dates; by number the flows, and their keys; the keys under which phases began since the rates were brought up to date, the flows that ended since, and the resources whose capacity changed since; and whether those whose date is now
-- complete.
pub record State : Type 0 where
  pub capacities : Capacities
  pub on : Switches
  pub date : ℕ
  pub drawn : ℕ
  pub slots : List (Option Live)
  pub ways : ℕ → List LinkId
  pub keys : List (Option Key)
  pub runs : List (Option RunningFlow)
  pub by_flow : List ℕ
  pub fresh : List ℕ
  pub ended : List Flow
  pub resources : List ℕ
  pub settled : Bool
  pub arrived : Bool

-- by key the links of the route of each communication
abbrev pub ways_of : Kept → ℕ → List LinkId
ways_of kept = λ key. way_in (length kept.hosts.items) (row_at kept.index.rows key)

abbrev pub state_of : Kept → State
state_of kept = record {
  capacities = machines kept.hosts.items kept.links.items;
  on = record { hosts = kept.hosts_on.items; links = kept.links_on.items };
  date = kept.date;
  drawn = kept.drawn;
  slots = kept.lives.slots;
  ways = ways_of kept;
  keys = kept.agenda;
  runs = kept.lazy.slots;
  by_flow = kept.by_flow.items;
  fresh = kept.fresh.members;
  ended = kept.lazy.ended;
  resources = kept.lazy.resources;
  settled = kept.settled;
  arrived = kept.arrived;
}

-- ---- by key
-- the links of the route under a key
abbrev pub links_at : (ℕ → List LinkId) → ℕ → List LinkId
links_at ways key = ways key

-- the place of a phase, as it is kept without the links of its route, over these links
abbrev pub place_of : LivePlace → List LinkId → Place
place_of place_is.Nowhere links = nowhere
place_of (place_is.OnHost host) links = on_host host.0
place_of (place_is.Over sender receiver count) links =
    over (record { links = links; sender = sender.0; receiver = receiver.0 })

-- the phase of an activity at a date, over these links
abbrev pub task_from : ℕ → List LinkId → Live → Task
task_from date links live = record {
  kind = live.kind;
  left = left_at live.kept live.rate live.stamp date;
  place = place_of live.place links;
  weight = live.weight;
  bound = live.bound;
  bytes = live.bytes;
}

-- the phase of the activity under a key
abbrev pub task_of : State → ℕ → Live → Task
task_of s key live = task_from s.date (links_at s.ways key) live

-- the stamp of the activity under a key
abbrev pub stamp_of : ℕ → Live → Stamp
stamp_of key live = record { left = live.kept; date = live.stamp; rate = live.rate }

-- what the activity under a key asks for
abbrev pub asked_by : State → ℕ → Live → Flow
asked_by s key live = flow_of s.capacities (task_of s key live)

-- the date at which an activity's phase completes; none: never
abbrev pub due_at : Live → Option ℕ
due_at live = if is_held live.kind then None else due_of live.stamp live.kept live.rate

-- its date in the agenda
abbrev pub date_of : Live → Option Key
date_of live = option_map (λ due. record { date = due; serial = live.serial }) (due_at live)

-- a phase that began since the rates were brought up to date has no date there yet
abbrev pub dated : List ℕ → ℕ → Live → Option Key
dated fresh key live = if is_in key fresh then None else date_of live

-- whether this is the date of the key
abbrev pub is_dated : ℕ → Option Key → Bool
is_dated date None = false
is_dated date (Some key) = key.date == date

abbrev pub is_now : State → ℕ → Live → Bool
is_now s key live = is_dated s.date (key_at s.keys key)

-- whether a flow runs, and is marked
abbrev pub is_marked : Option RunningFlow → Bool
is_marked None = false
is_marked (Some running) = running.marked

-- whether the phase under a key began since the rates were brought up to date, or has another bound
abbrev pub changed_at : List ℕ → List (Option RunningFlow) → ℕ → Live → Bool
changed_at fresh runs key live =
    is_in key fresh || (takes_share live.kind && is_marked (running_at runs live.flow))

-- the id of the activity under a key
abbrev pub serial_in : Option Live → ℕ
serial_in None = 0
serial_in (Some live) = live.serial

abbrev pub serial_at : List (Option Live) → ℕ → ℕ
serial_at slots key = serial_in (slot_at slots key)

-- ---- by activity id
-- the key of the activity of an id, if the first slot has this key
unfoldable pub key_from : ℕ → ℕ → List (Option Live) → Option ℕ
key_from key serial [] = None
key_from key serial (None ∷ rest) = key_from (suc key) serial rest
key_from key serial (Some live ∷ rest) = if live.serial == serial then Some key else key_from (suc key) serial rest

-- what the function gives for the activity of an id
abbrev pub told_at : {Y : Type 0} → (ℕ → Live → Y) → List (Option Live) → ℕ → Option Y
told_at tell slots serial = option_and_then (λ key. option_map (tell key) (slot_at slots key)) (key_from 0 serial slots)

-- and for those of all ids, from 1 on
abbrev pub told_by : {Y : Type 0} → (ℕ → Live → Y) → State → List (Option Y)
told_by tell s = listed s.drawn (λ i. told_at tell s.slots (i + 1))

abbrev pub is_so : Bool → Bool
is_so b = b

-- whether the running phase under each activity id did
abbrev pub changed_by : State → List Bool
changed_by s = map (passes is_so) (told_by (changed_at s.fresh s.runs) s)

abbrev pub under_of : State → Underway
under_of s = record {
  date = s.date;
  capacities = s.capacities;
  on = s.on;
  tasks = told_by (task_of s) s;
  marks = record {
    changed = changed_by s;
    ended = s.ended;
    resources = s.resources;
  };
  energy = [];
}

-- what is kept stands for this
abbrev pub doing_of : State → ℕ → Doing
doing_of s room = record {
  under = under_of s;
  due = if s.arrived then serials is_so 1 (told_by (is_now s) s) else [];
  settled = s.settled;
  room = room;
  stamps = told_by stamp_of s;
}
