-- A platform, and what holds of each one: its limits, and that each number in a row is that of something declared.
use Rattle.std.specs.Prelude.{◌≡◌, ℕ, ◌+◌, ◌^◌, ◌<◌, ◌≤◌, List, Option, IfSome, length}
use Rattle.std.specs.List.Sorted.{IsStrictlyIncreasing}
use Rattle.std.specs.List.{All}
use Rattle.sg_base.specs.declared.ids.Child.{Child}
use Rattle.sg_base.specs.declared.ids.Child.TheVariants.{Point, Zone}
use Rattle.sg_base.specs.declared.ids.LinkId.{LinkId}
use Rattle.sg_platform_rows.specs.Ends.{link_ends}
use Rattle.sg_platform_rows.specs.Network.{IsNetwork}
use Rattle.sg_platform_rows.specs.declared.network.Network.{Network}
use Rattle.sg_platform_rows.specs.declared.rows.HostRow.{HostRow}
use Rattle.sg_platform_rows.specs.declared.rows.LinkRow.{LinkRow}
use Rattle.sg_platform_rows.specs.declared.rows.PlatformRows.{PlatformRows}
use Rattle.sg_platform_rows.specs.declared.rows.Power.{Power}
use Rattle.sg_platform_rows.specs.declared.rows.ProfileRow.{ProfileRow}
use Rattle.sg_platform_rows.specs.declared.rows.Profiled.{Profiled}
use Rattle.sg_platform_rows.specs.declared.rows.Profiled.TheVariants.{Host, Link}
use Rattle.sg_platform_rows.specs.declared.rows.RouteRow.{RouteRow}
use Rattle.sg_platform_rows.specs.declared.rows.RouterRow.{RouterRow}
use Rattle.sg_platform_rows.specs.declared.rows.SpokeRow.{SpokeRow}
use Rattle.sg_platform_rows.specs.declared.rows.StateProfileRow.{StateProfileRow}
use Rattle.sg_platform_rows.specs.declared.rows.ZoneRouteRow.{ZoneRouteRow}
use Rattle.sg_platform_rows.specs.declared.rows.ZoneRow.{ZoneRow}

-- the rows of a platform: zones, hosts, routers, links, routes, spokes, the network model and the profiles
pub record Platform : Type 0 where
  pub zones : List ZoneRow
  pub hosts : List HostRow
  pub routers : List RouterRow
  pub links : List LinkRow
  pub routes : List RouteRow
  pub zone_routes : List ZoneRouteRow
  pub spokes : List SpokeRow
  pub network : Network
  pub profiles : List ProfileRow
  pub state_profiles : List StateProfileRow

-- what the code keeps of its tables
abbrev pub rows_view : PlatformRows → Platform
rows_view rows = record {
  zones = rows.zones.items;
  hosts = rows.hosts.items;
  routers = rows.routers.items;
  links = rows.links.items;
  routes = rows.routes.items;
  zone_routes = rows.zone_routes.items;
  spokes = rows.spokes.items;
  network = rows.network;
  profiles = rows.profiles.items;
  state_profiles = rows.state_profiles.items;
}

-- how much a platform has: zones, hosts, points, and links with the loopback
pub record Counts : Type 0 where
  pub zones : ℕ
  pub hosts : ℕ
  pub points : ℕ
  pub links : ℕ

abbrev pub counts_of : Platform → Counts
counts_of p = record {
  zones = length p.zones;
  hosts = length p.hosts;
  points = length p.hosts + length p.routers;
  links = length (link_ends p.links);
}

pub record IsZoneRow (counts : Counts) (zone : ZoneRow) : Type 0 where
  pub id : length zone.id ≤ 64
  pub parent : IfSome zone.parent (λ parent. parent.0 < counts.zones)

-- up to 10^9 mW each; with all of its capacity a host draws no less than with nearly none
pub record IsPower (power : Power) : Type 0 where
  pub idle : power.idle ≤ 10 ^ 9
  pub epsilon : power.epsilon ≤ 10 ^ 9
  pub all : power.all ≤ 10 ^ 9
  pub off : power.off ≤ 10 ^ 9
  pub rising : power.epsilon ≤ power.all

pub record IsHostRow (counts : Counts) (host : HostRow) : Type 0 where
  pub id : length host.id ≤ 64
  pub zone : host.zone.0 < counts.zones
  pub some_speed : 1 ≤ host.speed
  pub speed : host.speed ≤ 1000000000000000
  pub some_cores : 1 ≤ host.cores
  pub cores : host.cores ≤ 1024
  pub power : IfSome host.power IsPower

pub record IsRouterRow (counts : Counts) (router : RouterRow) : Type 0 where
  pub id : length router.id ≤ 64
  pub zone : router.zone.0 < counts.zones

pub record IsLinkRow (link : LinkRow) : Type 0 where
  pub id : length link.id ≤ 64
  pub some_bandwidth : 1 ≤ link.bandwidth
  pub bandwidth : link.bandwidth ≤ 1000000000000000
  pub latency : link.latency ≤ 1000000000000000

abbrev pub IsChild : Counts → Child → Type 0
IsChild counts (Point point) = point.0 < counts.points
IsChild counts (Zone zone) = zone.0 < counts.zones

-- 1 to 64 links
pub record IsLinkList (counts : Counts) (links : List LinkId) : Type 0 where
  pub some : 1 ≤ length links
  pub few : length links ≤ 64
  pub each : All (λ link. link.0 < counts.links) links

pub record IsRouteRow (counts : Counts) (route : RouteRow) : Type 0 where
  pub src : route.src.0 < counts.points
  pub dst : route.dst.0 < counts.points
  pub links : IsLinkList counts route.links

pub record IsZoneRouteRow (counts : Counts) (route : ZoneRouteRow) : Type 0 where
  pub src : IsChild counts route.src
  pub dst : IsChild counts route.dst
  pub gw_src : route.gw_src.0 < counts.points
  pub gw_dst : route.gw_dst.0 < counts.points
  pub links : IsLinkList counts route.links

pub record IsSpokeRow (counts : Counts) (spoke : SpokeRow) : Type 0 where
  pub zone : spoke.zone.0 < counts.zones
  pub child : IsChild counts spoke.child
  pub gateway : spoke.gateway.0 < counts.points
  pub up : IsLinkList counts spoke.up
  pub down : IsLinkList counts spoke.down

-- a host, or a declared link: the last link is the loopback
abbrev pub IsProfiled : Counts → Profiled → Type 0
IsProfiled counts (Host host) = host.0 < counts.hosts
IsProfiled counts (Link link) = link.0 + 1 < counts.links

-- 1 to 1,024 dates that rise, and a value for each of them
pub record HasDates (counts : Counts) (of : Profiled) (dates : List ℕ) (values : ℕ) (gap : Option ℕ) : Type 0 where
  pub exists : IsProfiled counts of
  pub some : 1 ≤ length dates
  pub few : length dates ≤ 1024
  pub each : values ≡ length dates
  pub rising : IsStrictlyIncreasing dates
  pub soon : All (λ date. date ≤ 10 ^ 18) dates
  pub wide : IfSome gap (λ gap. (1 ≤ gap) × (gap ≤ 10 ^ 18))

pub record IsProfileRow (counts : Counts) (profile : ProfileRow) : Type 0 where
  pub dates : HasDates counts profile.of profile.dates (length profile.values) profile.gap
  pub values : All (λ value. value ≤ 10 ^ 15) profile.values

abbrev pub IsStateProfileRow : Counts → StateProfileRow → Type 0
IsStateProfileRow counts profile = HasDates counts profile.of profile.dates (length profile.states) profile.gap

pub record IsPlatform (platform : Platform) : Type 0 where
  pub few_zones : length platform.zones ≤ 1024
  pub few_hosts : length platform.hosts ≤ 16384
  pub few_routers : length platform.routers ≤ 16384
  pub few_links : length platform.links ≤ 65536
  pub few_routes : length platform.routes ≤ 262144
  pub few_zone_routes : length platform.zone_routes ≤ 262144
  pub few_spokes : length platform.spokes ≤ 32768
  pub few_profiles : length platform.profiles ≤ 4096
  pub few_state_profiles : length platform.state_profiles ≤ 4096
  pub zones : All (IsZoneRow (counts_of platform)) platform.zones
  pub hosts : All (IsHostRow (counts_of platform)) platform.hosts
  pub routers : All (IsRouterRow (counts_of platform)) platform.routers
  pub links : All IsLinkRow platform.links
  pub routes : All (IsRouteRow (counts_of platform)) platform.routes
  pub zone_routes : All (IsZoneRouteRow (counts_of platform)) platform.zone_routes
  pub spokes : All (IsSpokeRow (counts_of platform)) platform.spokes
  pub network : IsNetwork platform.network
  pub profiles : All (IsProfileRow (counts_of platform)) platform.profiles
  pub state_profiles : All (IsStateProfileRow (counts_of platform)) platform.state_profiles
