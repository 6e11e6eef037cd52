-- The rows that a tree gives, if it has no fault. A value that is missing or unfit stands for its default here.
use Rattle.std.specs.Prelude.{ℕ, ◌-◌, Bool, false, nat_lt, List, map, if◌then◌else◌, Option, option_map, option_and_then, unwrap_or, codes}
use Rattle.std.specs.Option.{option_map_or}
use Rattle.std.specs.Str.{bytes_eq}
use Rattle.sg_base.specs.declared.ids.Child.{Child}
use Rattle.sg_base.specs.declared.ids.Child.TheVariants.{Point as PointChild, Zone as ZoneChild}
use Rattle.sg_base.specs.declared.ids.LinkId.{LinkId}
use Rattle.sg_base.specs.declared.ids.PointId.{PointId}
use Rattle.sg_base.specs.declared.ids.ZoneId.{ZoneId}
use Rattle.sg_platform_rows.specs.Ends.{way_back}
use Rattle.sg_platform_rows.specs.Network.{plain_network}
use Rattle.sg_platform.specs.Functions.{amount_or_zero, function_of}
use Rattle.sg_platform_rows.specs.declared.ends.LinkEnd.{LinkEnd}
use Rattle.sg_platform_rows.specs.declared.network.Network.{Network}
use Rattle.sg_platform_rows.specs.declared.rows.ActorRow.{ActorRow}
use Rattle.sg_platform_rows.specs.declared.rows.HostRow.{HostRow}
use Rattle.sg_platform_rows.specs.declared.rows.LinkRow.{LinkRow}
use Rattle.sg_platform_rows.specs.declared.rows.MutexRow.{MutexRow}
use Rattle.sg_platform_rows.specs.declared.rows.Policy.{Policy}
use Rattle.sg_platform_rows.specs.declared.rows.Policy.TheVariants.{Shared, Fatpipe, SplitDuplex}
use Rattle.sg_platform_rows.specs.declared.rows.Power.{Power}
use Rattle.sg_platform_rows.specs.declared.rows.ProfileRow.{ProfileRow}
use Rattle.sg_platform_rows.specs.declared.rows.Profiled.{Profiled}
use Rattle.sg_platform_rows.specs.declared.rows.Profiled.TheVariants.{Host as OfHost, Link as OfLink}
use Rattle.sg_platform_rows.specs.declared.rows.RouteRow.{RouteRow}
use Rattle.sg_platform_rows.specs.declared.rows.RouterRow.{RouterRow}
use Rattle.sg_platform_rows.specs.declared.rows.Routing.{Routing}
use Rattle.sg_platform_rows.specs.declared.rows.Routing.TheVariants.{Full, Star, Dijkstra}
use Rattle.sg_platform_rows.specs.declared.rows.SemaphoreRow.{SemaphoreRow}
use Rattle.sg_platform_rows.specs.declared.rows.SpokeRow.{SpokeRow}
use Rattle.sg_platform_rows.specs.declared.rows.StateProfileRow.{StateProfileRow}
use Rattle.sg_platform_rows.specs.declared.rows.ZoneRouteRow.{ZoneRouteRow}
use Rattle.sg_platform_rows.specs.declared.rows.ZoneRow.{ZoneRow}
use Rattle.sg_toml_rules.specs.Arguments.{text_of}
use Rattle.sg_toml_tree.specs.Pairs.{truth_at}
use Rattle.sg_toml_tree.specs.Names.{Known}
use Rattle.sg_toml_rules.specs.Power.{powers_in}
use Rattle.sg_toml_rules.specs.Profiles.{items_at, quantity_of, state_in}
use Rattle.sg_toml_rules.specs.declared.power.Powers.{Powers}
use Rattle.sg_toml_keys.specs.Units.{quantity_value, whole_value}
use Rattle.sg_toml_keys.specs.declared.units.Quantity.{Quantity}
use Rattle.sg_toml_keys.specs.declared.units.Quantity.TheVariants.{Time, Latency, Speed, Bandwidth, Factor, Amount}
use Rattle.sg_toml_tree.specs.Tree.{text_at, text_or_empty}
use Rattle.toml.specs.Data.{Data, get, as_integer}

-- the zone of a name; an unknown name gives the first zone
abbrev pub zone_id : Known → List ℕ → ZoneId
zone_id names name = record { 0 = unwrap_or (names.points name) 0 }

-- points are numbered after the zones
abbrev pub point_id : Known → List ℕ → PointId
point_id names name = record { 0 = unwrap_or (names.points name) 0 - names.zones }

-- the routing of a word: Star, Dijkstra, or else Full
abbrev pub routing_of : List ℕ → Routing
routing_of text = if bytes_eq text (codes "Star") then Star else if bytes_eq text (codes "Dijkstra") then Dijkstra else Full

-- the whole number at a key, if it is from the least to the greatest, or this default
abbrev pub whole_at : ℕ → ℕ → ℕ → List ℕ → Data → ℕ
whole_at least greatest default key row = unwrap_or (option_and_then (whole_value least greatest) (option_and_then as_integer (get key row))) default

-- the amount at a key, or this default
abbrev pub value_at : Quantity → ℕ → List ℕ → Data → ℕ
value_at quantity default key row = unwrap_or (option_and_then (quantity_value quantity) (text_at key row)) default

-- what it draws while it is on, and while it is off
abbrev pub with_off : ℕ → Powers → Power
with_off off powers = record { idle = powers.idle; epsilon = powers.epsilon; all = powers.all; off = off }

-- what a host draws, if the row says it
abbrev pub host_power : Data → Option Power
host_power row = option_map (with_off (whole_at 0 1000000000 0 (codes "power_off") row)) (powers_in (items_at (codes "power") row))

-- the link of a name; an unknown name gives the first link
abbrev pub link_id : Known → List ℕ → LinkId
link_id names name = record { 0 = unwrap_or (names.links name) 0 }

-- what a name in a zone stands for: a child zone, or a host or router
abbrev pub child_of : Known → List ℕ → Child
child_of names name = if nat_lt (zone_id names name).0 names.zones
    then ZoneChild (zone_id names name) else PointChild (point_id names name)

-- the point that a key names; if it is absent, the end is its own gateway
abbrev pub gateway : Known → Data → List ℕ → List ℕ → PointId
gateway names row key end = point_id names (unwrap_or (text_at key row) (text_or_empty end row))

-- the sharing policy of a word: SPLITDUPLEX, FATPIPE, or else SHARED
abbrev pub policy_of : List ℕ → Policy
policy_of text = if bytes_eq text (codes "SPLITDUPLEX") then SplitDuplex else if bytes_eq text (codes "FATPIPE") then Fatpipe else Shared

-- the amounts that the items of the array at a key give
abbrev pub amounts_at : Quantity → List ℕ → Data → List ℕ
amounts_at quantity key row = map (amount_or_zero quantity) (items_at key row)

-- a host if the row names one, else a link
abbrev pub subject_of : Known → Data → Profiled
subject_of names row = option_map_or (λ host. OfHost (point_id names host)) (text_at (codes "host") row) (OfLink (link_id names (text_or_empty (codes "link") row)))

-- the links that a list at a key names
abbrev pub links_at : Known → List ℕ → Data → List LinkId
links_at names key row = map (λ item. link_id names (text_of item)) (items_at key row)

-- the zone that a row declares: its name, its parent and its routing
unfoldable pub zone_row : Known → Data → ZoneRow
zone_row names row = record {
  id = text_or_empty (codes "id") row;
  parent = option_map (zone_id names) (text_at (codes "parent") row);
  routing = routing_of (text_or_empty (codes "routing") row);
}

-- the host that a row declares: its name, zone, speed, cores (by default 1) and power
unfoldable pub host_row : Known → Data → HostRow
host_row names row = record {
  id = text_or_empty (codes "id") row;
  zone = zone_id names (text_or_empty (codes "zone") row);
  speed = value_at Speed 0 (codes "speed") row;
  cores = whole_at 1 1024 1 (codes "core") row;
  power = host_power row;
}

-- the router that a row declares: its name and its zone
unfoldable pub router_row : Known → Data → RouterRow
router_row names row = record { id = text_or_empty (codes "id") row; zone = zone_id names (text_or_empty (codes "zone") row) }

-- the link that a row declares: its name, bandwidth, latency and sharing policy
unfoldable pub link_row : Data → LinkRow
link_row row = record {
  id = text_or_empty (codes "id") row;
  bandwidth = value_at Bandwidth 0 (codes "bandwidth") row;
  latency = value_at Latency 0 (codes "latency") row;
  policy = policy_of (text_or_empty (codes "sharing_policy") row);
}

-- the route that a row declares: its two points, its links, and whether it is symmetrical
unfoldable pub route_row : Known → Data → RouteRow
route_row names row = record {
  src = point_id names (text_or_empty (codes "src") row);
  dst = point_id names (text_or_empty (codes "dst") row);
  links = links_at names (codes "links") row;
  symmetrical = truth_at (codes "symmetrical") row;
}

-- the route between two children of a zone that a row declares, with the gateways
unfoldable pub zone_route_row : Known → Data → ZoneRouteRow
zone_route_row names row = record {
  src = child_of names (text_or_empty (codes "src") row);
  dst = child_of names (text_or_empty (codes "dst") row);
  gw_src = gateway names row (codes "gw_src") (codes "src");
  gw_dst = gateway names row (codes "gw_dst") (codes "dst");
  links = links_at names (codes "links") row;
  symmetrical = truth_at (codes "symmetrical") row;
}

-- the spoke that a row declares: a child of a star zone, its gateway, the links up, and those down, by default the
-- reverse of those up
unfoldable pub spoke_row : Known → List LinkEnd → Data → SpokeRow
spoke_row names ends row = record {
  zone = zone_id names (text_or_empty (codes "zone") row);
  child = child_of names (text_or_empty (codes "child") row);
  gateway = gateway names row (codes "gateway") (codes "child");
  up = links_at names (codes "up") row;
  down = option_map_or (λ d. links_at names (codes "down") row) (get (codes "down") row)
      (way_back ends (links_at names (codes "up") row));
}

-- the profile that a row declares: speeds or bandwidths at dates, and the period if it repeats
unfoldable pub profile_row : Known → Data → ProfileRow
profile_row names row = record {
  of = subject_of names row;
  dates = amounts_at Time (codes "dates") row;
  values = amounts_at (quantity_of row) (codes "values") row;
  gap = option_and_then (quantity_value Time) (text_at (codes "loop") row);
}

-- the profile that a row declares: when a host or link is on or off
unfoldable pub state_profile_row : Known → Data → StateProfileRow
state_profile_row names row = record {
  of = subject_of names row;
  dates = amounts_at Time (codes "dates") row;
  states = map (λ item. unwrap_or (state_in item) false) (items_at (codes "states") row);
  gap = option_and_then (quantity_value Time) (text_at (codes "loop") row);
}

-- the mutex that a row declares, which has a name only
unfoldable pub mutex_row : Data → MutexRow
mutex_row row = record { id = text_or_empty (codes "id") row }

-- the semaphore that a row declares: its name and its capacity
unfoldable pub semaphore_row : Data → SemaphoreRow
semaphore_row row = record { id = text_or_empty (codes "id") row; capacity = whole_at 0 1000000000 0 (codes "capacity") row }

-- the actor that a row declares: its name, host and function, and whether it begins with the run
unfoldable pub actor_row : Known → Data → ActorRow
actor_row names row = record {
  name = text_or_empty (codes "name") row;
  host = point_id names (text_or_empty (codes "host") row);
  function = function_of names row;
  start = truth_at (codes "start") row;
}

-- the network model that a row declares: latency factor, bandwidth factor and window, each with a default
unfoldable pub network_row : Data → Network
network_row row = record {
  latency_factor = value_at Factor plain_network.latency_factor (codes "latency_factor") row;
  bandwidth_factor = value_at Factor plain_network.bandwidth_factor (codes "bandwidth_factor") row;
  window = value_at Amount plain_network.window (codes "window") row;
}
