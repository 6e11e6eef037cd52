-- Links: what their flows share, and what bounds each flow.
use Rattle.std.specs.Prelude.{ℕ, ◌+◌, ◌≤◌, ◌^◌, ◌++◌, not, Bool, true, Option, None, Some, false, if◌then◌else◌, List, [], ◌∷◌, map, filter, slice_index_or, slice_set}
use Rattle.sg_base.specs.declared.ids.LinkId.{LinkId}
use Rattle.sg_activity_table.specs.declared.kinds.HostCap.{HostCap}
use Rattle.sg_activity_table.specs.declared.kinds.LinkCap.{LinkCap}
use Rattle.sg_activity.specs.Hosts.{host_at, offer_of}
use Rattle.sg_activity_table.specs.Slots.{sooner}

-- its bandwidth keeps to its limit
abbrev pub IsLink : LinkCap → Type 0
IsLink link = link.bandwidth ≤ 10 ^ 18

-- the hosts and links, as they are now
pub record Capacities : Type 0 where
  pub hosts : List HostCap
  pub links : List LinkCap

-- these hosts and links
abbrev pub machines : List HostCap → List LinkCap → Capacities
machines hosts links = record { hosts = hosts; links = links }

-- whether each host and each link is on
pub record Switches : Type 0 where
  pub hosts : List Bool
  pub links : List Bool

-- whether the host or link of a number is off; one that isn't there is on
abbrev pub is_off : List Bool → ℕ → Bool
is_off on number = not (slice_index_or on number true)

-- What each resource offers: the hosts all their cores, and after them the links their bandwidths. A FATPIPE link has a number there like any other, but no flow uses it.
abbrev pub capacities_of : Capacities → List ℕ
capacities_of capacities = map offer_of capacities.hosts ++ map (λ (link : LinkCap). link.bandwidth) capacities.links

-- what a link bounds each flow over it to by itself
abbrev pub bound_of_link : LinkCap → Option ℕ
bound_of_link link = if link.fatpipe then Some link.bandwidth else None

-- the link of a number: its bandwidth, and whether it is FATPIPE
abbrev pub link_at : List LinkCap → ℕ → LinkCap
link_at links number = slice_index_or links number (record { bandwidth = 0; fatpipe = false })

-- the least bandwidth of the FATPIPE links of a route; none: it has none
unfoldable pub route_bound : List LinkCap → List LinkId → Option ℕ
route_bound links [] = None
route_bound links (link ∷ route) =
    sooner (bound_of_link (link_at links link.0)) (route_bound links route)

-- the numbers of the links that the flows of a route share with others, if so many resources stand in front of the links
abbrev pub shared_of : ℕ → List LinkCap → List LinkId → List ℕ
shared_of hosts links route =
    map (λ link. hosts + link.0) (filter (λ link. not (link_at links link.0).fatpipe) route)

-- the same, except for the speed of a host
abbrev pub at_speed : ℕ → ℕ → Capacities → Capacities
at_speed host speed capacities = record capacities {
  hosts = slice_set capacities.hosts host
      (record (host_at capacities.hosts host) { speed = speed });
}

-- the same, except for the bandwidth of a link
abbrev pub at_bandwidth : ℕ → ℕ → Capacities → Capacities
at_bandwidth link bandwidth capacities = record capacities {
  links = slice_set capacities.links link
      (record (link_at capacities.links link) { bandwidth = bandwidth });
}
