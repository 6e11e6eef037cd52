-- Phases: their kind and place, what they ask for, and what follows them.
use Rattle.std.specs.Prelude.{ℕ, ◌-◌, ◌*◌, ◌||◌, Bool, false, Option, None, Some, if◌then◌else◌, List, [], ◌∷◌, filter_map, length, option_and_then, slice_index_or}
use Rattle.std.specs.List.{list_any}
use Rattle.sg_base.specs.declared.ids.LinkId.{LinkId}
use Rattle.sg_maxmin.specs.Fill.{Flow, flow}
use Rattle.sg_activity_table.specs.declared.kinds.PhaseKind.{PhaseKind}
use Rattle.sg_activity_table.specs.declared.kinds.PhaseKind.TheVariants as phase
use Rattle.sg_activity.specs.Hosts.{host_at}
use Rattle.sg_activity.specs.Links.{Capacities, Switches, is_off, route_bound, shared_of}
use Rattle.sg_activity_table.specs.Kinds.{takes_share}
use Rattle.sg_activity_table.specs.Slots.{sooner}

-- all links of a route, FATPIPE links too, and the hosts of the sender and of the receiver
pub record Way : Type 0 where
  pub links : List LinkId
  pub sender : ℕ
  pub receiver : ℕ

-- the place of a phase: nowhere for a sleep, its host for an execution, its route for a latency and a flow
pub data Place : Type 0 where
  nowhere : Place
  on_host : ℕ → Place
  over : Way → Place

-- The kind of a phase, and how much of it remains: unit-nanoseconds of an execution or a flow, nanoseconds of a sleep or a latency. Its place; its weight among those that share with it; a bound of its own, if it has one; how many bytes a communication has.
pub record Task : Type 0 where
  pub kind : PhaseKind
  pub left : ℕ
  pub place : Place
  pub weight : ℕ
  pub bound : Option ℕ
  pub bytes : ℕ

-- a phase of this kind, with this much work, at a place: of weight 1, without a bound of its own, with no bytes
abbrev pub phase_of : PhaseKind → ℕ → Place → Task
phase_of kind left place = record { kind = kind; left = left; place = place; weight = 1; bound = None; bytes = 0 }

-- an execution weighs as much as its priority
abbrev pub exec_of : ℕ → ℕ → ℕ → Task
exec_of host flops priority = record (phase_of phase.Exec (flops * 1000000000) (on_host host)) { weight = priority }

-- the one phase of a sleep of this many nanoseconds, which uses no resource
abbrev pub timer_of : ℕ → Task
timer_of ns = phase_of phase.Timer ns nowhere

-- a communication over a route lets its latency pass first; its bytes flow at no more than its bound
abbrev pub comm_of : Way → ℕ → ℕ → Option ℕ → Task
comm_of way latency bytes bound = record (phase_of phase.Latency latency (over way)) { bound = bound; bytes = bytes }

-- ---- what a phase asks for
-- An execution uses its host, and gets at most the host's speed. A flow uses the SHARED links of its route, and gets at most the bandwidth of each FATPIPE link on it, as these are now. None gets more than its own
-- bound.
abbrev pub flow_at : Capacities → Task → Place → Flow
flow_at capacities task nowhere = flow [] task.weight task.bound
flow_at capacities task (on_host host) =
    flow (host ∷ []) task.weight
    (sooner (Some (host_at capacities.hosts host).speed) task.bound)
flow_at capacities task (over way) =
    flow (shared_of (length capacities.hosts) capacities.links way.links) task.weight
    (sooner (route_bound capacities.links way.links) task.bound)

-- what a phase asks of the solver at its place: its uses, its weight and its bound
abbrev pub flow_of : Capacities → Task → Flow
flow_of capacities task = flow_at capacities task task.place

-- ---- what is off
-- whether a link of a route is off, or a host at an end of it
abbrev pub is_cut : Switches → Way → Bool
is_cut on way =
    list_any (λ link. is_off on.links link.0) way.links
    || (is_off on.hosts way.sender || is_off on.hosts way.receiver)

-- whether something is off that a phase uses there
abbrev pub uses_off : Switches → Place → Bool
uses_off on nowhere = false
uses_off on (on_host host) = is_off on.hosts host
uses_off on (over way) = is_cut on way

-- whether a phase uses a host or link that is off, and so fails
abbrev pub is_hit : Switches → Task → Bool
is_hit on task = uses_off on task.place

-- what an activity asks of the solver now; none: it takes no share, as it is neither a flow nor an execution
abbrev pub flow_in : Capacities → Option Task → Option Flow
flow_in capacities None = None
flow_in capacities (Some task) = if takes_share task.kind then Some (flow_of capacities task) else None

-- what the executions and flows that run ask for
unfoldable pub flows : Capacities → List (Option Task) → List Flow
flows capacities tasks = filter_map (flow_in capacities) tasks

-- ---- what follows
-- What follows once a phase completes: after a latency the bytes flow, and after any other phase the activity is
-- done.
abbrev pub next_phase : PhaseKind → Task → Option Task
next_phase phase.Latency task =
    Some (record task { kind = phase.Flow; left = task.bytes * 1000000000 })
next_phase other task = None

-- the phase that follows the one that was running; none: the activity is done
abbrev pub phase_after : Option Task → Option Task
phase_after slot = option_and_then (λ (task : Task). next_phase task.kind task) slot

-- the running phase under an activity id, if there is one
abbrev pub task_at : List (Option Task) → ℕ → Option Task
task_at tasks serial = slice_index_or tasks (serial - 1) None

-- ---- suspended executions
-- whether the kind of a phase passes the test
abbrev pub of_kind : (PhaseKind → Bool) → Task → Bool
of_kind test task = test task.kind

-- the same amount of the same work, as a phase of this kind
abbrev pub rekinded : PhaseKind → Task → Task
rekinded kind task = record task { kind = kind }
