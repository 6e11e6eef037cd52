-- The part of the world that `Activities` keeps: when its phases complete, and how it changes.
use Rattle.std.specs.Prelude.{ℕ, ◌+◌, ◌-◌, ◌*◌, ◌==◌, ◌++◌, ◌||◌, ◌&&◌, not, Bool, true, false, Option, None, Some, is_some, option_map, option_to_list, if◌then◌else◌, List, [], ◌∷◌, filter_map, length, map, replicate, slice_index, slice_index_or, slice_set}
use Rattle.std.specs.Int.{div_ceil}
use Rattle.std.specs.List.{list_any}
use Rattle.sg_base.specs.MarkSet.{with_mark}
use Rattle.sg_maxmin.specs.Fill.{Flow, share_of}
use Rattle.sg_lazy.specs.RunningFlow.{RunningFlow, is_same_bound}
use Rattle.sg_lazy.specs.Work.{work}
use Rattle.sg_activity.specs.Hosts.{host_at, offer_of}
use Rattle.sg_activity.specs.Links.{Capacities, Switches, capacities_of, is_off, at_speed, at_bandwidth}
use Rattle.sg_activity_table.specs.Slots.{soonest, passes, serials, is_over_after, listed}
use Rattle.sg_activity_table.specs.declared.kinds.PhaseKind.{PhaseKind}
use Rattle.sg_activity_table.specs.declared.kinds.PhaseKind.TheVariants as phase
use Rattle.sg_activity.specs.Power.{load_by, power_in}
use Rattle.sg_activity.specs.Task.{Task, flow_in, flow_of, flows, is_hit, task_at, of_kind, rekinded}
use Rattle.sg_activity_table.specs.Kinds.{is_exec, is_held, pace, takes_share}

-- What changed since the rates were brought up to date: by activity id whether the running phase began, or has another bound; what those asked for that ended; and the numbers of the resources whose capacity changed.
pub record Marks : Type 0 where
  pub changed : List Bool
  pub ended : List Flow
  pub resources : List ℕ

-- nothing changed, of so many activity ids
abbrev pub no_marks : ℕ → Marks
no_marks drawn = record { changed = replicate drawn false; ended = []; resources = [] }

-- The date, the hosts and links as they are now and which of them are on, by activity id from 1 on the running phase, or nothing, what changed since the rates were brought up to date, and by host the energy that it used, in milliwatt-nanoseconds.
pub record Underway : Type 0 where
  pub date : ℕ
  pub capacities : Capacities
  pub on : Switches
  pub tasks : List (Option Task)
  pub marks : Marks
  pub energy : List ℕ

-- at first: all hosts and links are on
abbrev pub nothing_on : Capacities → Underway
nothing_on capacities = record {
  date = 0;
  capacities = capacities;
  on = record { hosts = map (λ _. true) capacities.hosts; links = map (λ _. true) capacities.links };
  tasks = [];
  marks = no_marks 0;
  energy = replicate (length capacities.hosts) 0;
}

-- whether an activity is running, and isn't suspended
abbrev pub is_running : Underway → Bool
is_running under = list_any (passes (λ (task : Task). not (is_held task.kind))) under.tasks

-- ---- how much a change touches
-- The flow of an activity id that takes shares, and whether it began, or its bound changed, since the rates were brought up to
-- date.
abbrev pub running_under : Underway → ℕ → Option RunningFlow
running_under under serial =
    option_map (λ flow. record {
      flow = flow;
      rate = 0;
      began = false;
      marked = slice_index_or under.marks.changed (serial - 1) false;
    }) (flow_in under.capacities (task_at under.tasks serial))

-- all that runs and takes shares, by activity id
abbrev pub runnings : Underway → List (Option RunningFlow)
runnings under = listed (length under.tasks) (λ i. running_under under (i + 1))

-- how many visits to uses of hosts and links may be needed to bring the rates up to date
unfoldable pub work_of : Underway → ℕ
work_of under =
    work (filter_map (λ slot. slot) (runnings under)) under.marks.ended under.marks.resources

-- ---- when phases complete
-- units, or nanoseconds, in a nanosecond
unfoldable pub rate : Underway → Task → ℕ
rate under task =
    if takes_share task.kind
    then share_of (capacities_of under.capacities) (flows under.capacities under.tasks)
    (flow_of under.capacities task)
    else pace task.kind

-- in how many nanoseconds no work remains; none: never
abbrev pub wait : ℕ → ℕ → Option ℕ
wait rate left =
    if left == 0 then Some 0 else if rate == 0 then None else Some (div_ceil left rate)

-- in how many nanoseconds a phase completes at its present rate; none: never, as a suspended execution
abbrev pub wait_in : Underway → Task → Option ℕ
wait_in under task = if is_held task.kind then None else wait (rate under task) task.left

-- in how many nanoseconds the next phase completes; none: never
abbrev pub next_in : Underway → Option ℕ
next_in under = soonest (wait_in under) under.tasks

-- the ids of the activities whose phases complete in exactly so many nanoseconds
abbrev pub due_in : ℕ → Underway → List ℕ
due_in span under = serials (λ task. is_over_after (wait_in under task) span) 1 under.tasks

-- the phase, so many nanoseconds later: each of them took as much as the rate, as far as there was something left
abbrev pub passed : Underway → ℕ → Task → Task
passed under span task = record task { left = task.left - rate under task * span }

-- ---- energy
-- the sum of the rates of the executions of a host that take shares of it; none: there is none
abbrev pub load : Underway → ℕ → Option ℕ
load under host = load_by (rate under) host under.tasks

-- the power of a host, in milliwatts
abbrev pub power_at : Underway → ℕ → ℕ
power_at under host =
    power_in (host_at under.capacities.hosts host).power (is_off under.on.hosts host)
    (offer_of (host_at under.capacities.hosts host)) (load under host)

-- the energy of a host, so many nanoseconds later
abbrev pub used_later : ℕ → Underway → ℕ → ℕ
used_later span under host = slice_index_or under.energy host 0 + power_at under host * span

-- so many nanoseconds later every amount has fallen, and every host has used what its power is
abbrev pub later : ℕ → Underway → Underway
later span under = record under {
  date = under.date + span;
  tasks = map (option_map (passed under span)) under.tasks;
  energy = listed (length under.energy) (used_later span under);
}

-- ---- how the activities change
-- what changed, once another phase replaces that of this activity id
abbrev pub marked : Capacities → ℕ → Option Task → Option Task → Marks → Marks
marked capacities serial before after marks = record marks {
  changed =
      if is_some before || is_some after then slice_set marks.changed (serial - 1) (is_some after)
      else marks.changed;
  ended = marks.ended ++ option_to_list (flow_in capacities before);
}

-- the one place at which the phase of an activity id changes
abbrev pub with_task : ℕ → Option Task → Underway → Underway
with_task serial task under = record under {
  tasks = slice_set under.tasks (serial - 1) task;
  marks = marked under.capacities serial (task_at under.tasks serial) task under.marks;
}

-- the next activity id is drawn, and has this phase, or none yet
abbrev pub with_slot : Option Task → Underway → Underway
with_slot slot under = record under {
  tasks = under.tasks ++ slot ∷ [];
  marks = record under.marks { changed = under.marks.changed ++ is_some slot ∷ [] };
}

-- the next activity id is drawn, and nothing is running there yet
abbrev pub with_next_serial : Underway → Underway
with_next_serial under = with_slot None under

-- the next activity id has this phase
abbrev pub started : Task → Underway → Underway
started task under = with_slot (Some task) under

-- the activity of this id, which was drawn before, begins with this phase
abbrev pub begun : ℕ → Task → Underway → Underway
begun serial task under = with_task serial (Some task) under

-- the rates are brought up to date
abbrev pub with_rates_updated : Underway → Underway
with_rates_updated under = record under { marks = no_marks (length under.tasks) }

-- whether a phase takes a share, and has another bound at the new capacities
abbrev pub is_rebound : Capacities → Capacities → Task → Bool
is_rebound old new task =
    takes_share task.kind && not (is_same_bound (flow_of old task).bound (flow_of new task).bound)

-- The hosts and links are these now, and differ in this resource alone. It is marked if its capacity is another, and so is what has another bound by that.
abbrev pub with_capacities : Capacities → ℕ → Underway → Underway
with_capacities capacities resource under = record under {
  capacities = capacities;
  marks = record under.marks {
    changed = listed (length under.tasks) (λ i.
        slice_index_or under.marks.changed i false
        || passes (is_rebound under.capacities capacities) (slice_index_or under.tasks i None));
    resources =
        if slice_index (capacities_of under.capacities) resource
        == slice_index (capacities_of capacities) resource
        then under.marks.resources
        else with_mark resource under.marks.resources;
  };
}

-- a host gets this speed
abbrev pub with_speed : ℕ → ℕ → Underway → Underway
with_speed host speed under = with_capacities (at_speed host speed under.capacities) host under

-- a link gets this bandwidth
abbrev pub with_bandwidth : ℕ → ℕ → Underway → Underway
with_bandwidth link bandwidth under =
    with_capacities (at_bandwidth link bandwidth under.capacities)
    (length under.capacities.hosts + link) under

-- ---- what fails
-- the activity ids of the phases that use something that is off
abbrev pub hits : Underway → List ℕ
hits under = serials (is_hit under.on) 1 under.tasks

-- a host is turned on or off
abbrev pub with_host_on : ℕ → Bool → Underway → Underway
with_host_on host on under = record under {
  on = record under.on { hosts = slice_set under.on.hosts host on };
}

-- a link is turned on or off
abbrev pub with_link_on : ℕ → Bool → Underway → Underway
with_link_on link on under = record under {
  on = record under.on { links = slice_set under.on.links link on };
}

-- the activity of this id is given up
abbrev pub given_up : ℕ → Underway → Underway
given_up serial under = with_task serial None under

-- ---- suspended executions
-- whether an execution is running there, and isn't suspended
abbrev pub is_computing : Underway → ℕ → Bool
is_computing under serial = passes (of_kind is_exec) (task_at under.tasks serial)

-- whether an execution is suspended there
abbrev pub is_kept : Underway → ℕ → Bool
is_kept under serial = passes (of_kind is_held) (task_at under.tasks serial)

-- what is running there is a phase of this kind from now on
abbrev pub with_phase_kind : PhaseKind → ℕ → Underway → Underway
with_phase_kind kind serial under =
    with_task serial (option_map (rekinded kind) (task_at under.tasks serial)) under

-- The execution of this activity id is suspended: it keeps its remaining work.
abbrev pub held : ℕ → Underway → Underway
held serial under = with_phase_kind phase.Kept serial under

-- the suspended execution is resumed
abbrev pub gone_on : ℕ → Underway → Underway
gone_on serial under = with_phase_kind phase.Exec serial under
