-- Laws of the load and the power of a host.
use Rattle.std.specs.Prelude.{◌≡◌, ℕ, ◌<◌, ◌≤◌, Option, None, Some, if◌then◌else◌, List, filter_map, length}
use Rattle.sg_maxmin.specs.Fill.{Flow}
use Rattle.sg_maxmin.specs.Laws.{HaveLimits}
use Rattle.sg_activity.specs.Hosts.{host_at, offer_of}
use Rattle.sg_activity.specs.Links.{Capacities, is_off}
use Rattle.sg_activity.specs.Power.{loads}
use Rattle.sg_activity.specs.Task.{Task, flow_of, flows}
use Rattle.sg_activity.specs.Underway.{Underway, load, power_at}

-- what an execution asks of a host; none: it takes no share of this one
abbrev pub asked_on : Capacities → ℕ → Option Task → Option Flow
asked_on capacities host None = None
asked_on capacities host (Some task) =
    if loads host task then Some (flow_of capacities task) else None

-- what all executions ask of a host, by activity id
unfoldable pub asked_of : Underway → ℕ → List Flow
asked_of under host = filter_map (asked_on under.capacities host) under.tasks

-- The host exists, and something limits each execution and each flow.
pub record IsHostOf (under : Underway) (host : ℕ) : Type 0 where
  pub exists : host < length under.capacities.hosts
  pub limited : HaveLimits (flows under.capacities under.tasks)

-- The host is the same in both, as on as in the other, and the same executions take shares of it. Whatever else is running may differ.
pub record IsSameHost (past under : Underway) (host : ℕ) : Type 0 where
  pub offers : host_at under.capacities.hosts host ≡ host_at past.capacities.hosts host
  pub on : is_off under.on.hosts host ≡ is_off past.on.hosts host
  pub asked : asked_of under host ≡ asked_of past host

-- A host's load follows from the host and its executions.
abbrev pub LoadIsItsOwn : Type 0
LoadIsItsOwn =
    (past under : Underway) (host : ℕ) → IsHostOf past host → IsHostOf under host →
    IsSameHost past under host → load under host ≡ load past host

-- So does its power.
abbrev pub PowerIsItsOwn : Type 0
PowerIsItsOwn =
    (past under : Underway) (host : ℕ) → IsHostOf past host → IsHostOf under host →
    IsSameHost past under host → power_at under host ≡ power_at past host

-- The load is no more than all cores offer.
abbrev pub LoadFits : Type 0
LoadFits =
    (under : Underway) (host sum : ℕ) → IsHostOf under host → load under host ≡ Some sum →
    sum ≤ offer_of (host_at under.capacities.hosts host)
