-- The rows of a tree that has no fault are a platform.
use Rattle.std.proofs.Common.{◌≡◌, ℕ, ◌+◌, ◌<◌, ◌≤◌, Bool, true, false, cond, List, [], ◌∷◌, map, length, codes, Option, Some, None, IfSome, refl, sym, subst, length-append, arith}
use Rattle.std.proofs.lemmas.List.{length-map}
use Rattle.std.proofs.lemmas.List.Elements.{All-map}
use Rattle.std.specs.List.{All, flat_map}
use Rattle.std.specs.Option.{option_map_or}
use Rattle.sg_platform_rows.proofs.EndsBelow.{link_ends_count}
use Rattle.sg_platform.proofs.KeptProfiles.{profile_kept, state_profile_kept}
use Rattle.sg_platform.proofs.KeptRows.{IsCounted, host_kept, link_kept, network_kept, network_row_kept, route_kept, router_kept, spoke_kept, zone_kept, zone_route_kept}
use Rattle.sg_platform.specs.Build.{host_row, link_row, network_row, profile_row, route_row, router_row, spoke_row, state_profile_row, zone_route_row, zone_row}
use Rattle.sg_platform_rows.specs.Ends.{ends_from, ends_of, link_ends}
use Rattle.sg_platform_rows.specs.Network.{IsNetwork}
use Rattle.sg_platform_rows.specs.Platform.{Counts, IsHostRow, IsLinkRow, IsPlatform, IsProfileRow, IsRouteRow, IsRouterRow, IsSpokeRow, IsStateProfileRow, IsZoneRouteRow, IsZoneRow, counts_of}
use Rattle.sg_platform.specs.PlatformOf.{links_of, platform_rows}
use Rattle.sg_platform_rows.specs.declared.rows.Policy.TheVariants.{Shared, Fatpipe, SplitDuplex}
use Rattle.sg_toml_rules.proofs.Kept.{rows_few, rows_kept}
use Rattle.sg_toml_tree.proofs.NumbersBelow.{links_below, points_below}
use Rattle.sg_toml_rules.specs.Faults.{faults_of, table_faults}
use Rattle.sg_toml_tree.specs.LinkNames.{is_split, link_names}
use Rattle.sg_toml_tree.specs.Names.{Known, known_by, platform_known}
use Rattle.sg_toml_keys.specs.Tables.{platform_tables}
use Rattle.sg_toml_keys.specs.declared.tables.Table.TheVariants.{Zone, Host, Router, Link, Route, ZoneRoute, Spoke, Network, Profile, StateProfile}
use Rattle.sg_toml_tree.proofs.Bounds.{below_all}
use Rattle.sg_toml_tree.proofs.Kept.{empty_left, empty_right, none_empty}
use Rattle.sg_toml_tree.specs.Along.{first}
use Rattle.sg_toml_tree.specs.Spelling.{split_names}
use Rattle.sg_toml_tree.specs.Tree.{rows_at, text_at}
use Rattle.toml.specs.Data.{Data, Members}

pub known_zones : (tree : Members) → (platform_known tree).zones ≡ length (rows_at (codes "zone") tree)
unfolding known_by
known_zones tree = refl

known_hosts : (tree : Members) → (platform_known tree).hosts ≡ length (rows_at (codes "host") tree)
unfolding known_by
known_hosts tree = refl

-- no table has a fault
pub record NoFaults (names : Known) (tree : Members) : Type 0 where
  pub zones : table_faults names tree 1 Zone ≡ []
  pub hosts : table_faults names tree 2 Host ≡ []
  pub routers : table_faults names tree 3 Router ≡ []
  pub links : table_faults names tree 4 Link ≡ []
  pub routes : table_faults names tree 5 Route ≡ []
  pub zone_routes : table_faults names tree 6 ZoneRoute ≡ []
  pub spokes : table_faults names tree 7 Spoke ≡ []
  pub network : table_faults names tree 8 Network ≡ []
  pub profiles : table_faults names tree 9 Profile ≡ []
  pub state_profiles : table_faults names tree 10 StateProfile ≡ []

pub no_faults : (names : Known) (tree : Members) → first (faults_of names platform_tables tree) ≡ None → NoFaults names tree
unfolding faults_of
no_faults names tree none =
    let zones = empty_right _ _ (none_empty _ none) in
    let hosts = empty_right _ _ zones in
    let routers = empty_right _ _ hosts in
    let links = empty_right _ _ routers in
    let routes = empty_right _ _ links in
    let zone_routes = empty_right _ _ routes in
    let spokes = empty_right _ _ zone_routes in
    let network = empty_right _ _ spokes in
    let profiles = empty_right _ _ network in
    let state_profiles = empty_right _ _ profiles in
    record {
      zones = empty_left _ _ zones;
      hosts = empty_left _ _ hosts;
      routers = empty_left _ _ routers;
      links = empty_left _ _ links;
      routes = empty_left _ _ routes;
      zone_routes = empty_left _ _ zone_routes;
      spokes = empty_left _ _ spokes;
      network = empty_left _ _ network;
      profiles = empty_left _ _ profiles;
      state_profiles = empty_left _ _ state_profiles;
    }

-- a row gives at least as many links as names of links
names_fit : (split other : Bool) (id : Option (List ℕ)) (first latency : ℕ) → length (option_map_or (λ name. cond split (split_names name) (name ∷ [])) id []) ≤ length (ends_of first latency (cond split SplitDuplex (cond other Fatpipe Shared)))
names_fit true other None first latency = omega arith
names_fit true other (Some id) first latency = omega arith
names_fit false true None first latency = omega arith
names_fit false true (Some id) first latency = omega arith
names_fit false false None first latency = omega arith
names_fit false false (Some id) first latency = omega arith

names_within : (first : ℕ) (rows : List Data) → length (flat_map link_names rows) ≤ length (ends_from first (map link_row rows))
unfolding link_row
names_within first [] = omega arith
names_within first (row ∷ rows) =
    let link = link_row row in
    let own = ends_of first link.latency link.policy in
    let rest = ends_from (first + length own) (map link_row rows) in
    let here : length (link_names row) ≤ length own = names_fit (is_split row) _ (text_at (codes "id") row) first link.latency in
    omega (arith, here, names_within (first + length own) rows, length-append (link_names row) (flat_map link_names rows), length-append own rest)

-- the counts of the rows of a tree
counts_in : Members → Counts
counts_in tree = record {
  zones = length (rows_at (codes "zone") tree);
  hosts = length (rows_at (codes "host") tree);
  points = length (rows_at (codes "host") tree) + length (rows_at (codes "router") tree);
  links = length (link_ends (links_of tree));
}

below_less : (found : Option ℕ) (m n : ℕ) → m + 1 ≤ n → IfSome found (λ i. i < m) → IfSome found (λ i. i + 1 < n)
below_less None m n less below = tt
below_less (Some i) m n less below = omega (arith, less, below)

counted : (tree : Members) → IsCounted (platform_known tree) (counts_in tree)
unfolding counts_in
counted tree =
    let zones = rows_at (codes "zone") tree in
    let hosts = rows_at (codes "host") tree in
    let routers = rows_at (codes "router") tree in
    let links = rows_at (codes "link") tree in
    record {
      zones = known_zones tree;
      hosts = known_hosts tree;
      points = λ q. rw (known_zones tree) (below_all _ (length zones + length hosts + length routers) (length zones + (length hosts + length routers)) (omega arith) (points_below tree q));
      links = λ q. below_all _ (length (flat_map link_names links)) (length (link_ends (links_of tree))) (omega (arith, names_within 0 links, link_ends_count (links_of tree))) (links_below tree q);
      declared = λ q. below_less _ (length (flat_map link_names links)) (length (link_ends (links_of tree))) (omega (arith, names_within 0 links, link_ends_count (links_of tree))) (links_below tree q);
    }

counts_same : (names : Known) (tree : Members) → counts_in tree ≡ counts_of (platform_rows names tree)
unfolding counts_in platform_rows
counts_same names tree =
    let zones = sym (length-map (rows_at (codes "zone") tree) (zone_row names)) in
    let hosts = sym (length-map (rows_at (codes "host") tree) (host_row names)) in
    let routers = sym (length-map (rows_at (codes "router") tree) (router_row names)) in
    λ i. record { zones = zones i; hosts = hosts i; points = hosts i + routers i; links = length (link_ends (links_of tree)) }

rows_platform : (names : Known) (tree : Members) (counts : Counts) → counts ≡ counts_of (platform_rows names tree) → IsCounted names counts → counts.links ≡ length (link_ends (links_of tree)) → NoFaults names tree → IsPlatform (platform_rows names tree)
unfolding platform_rows
rows_platform names tree counts same kept ends none =
    let zones = rows_at (codes "zone") tree in
    let hosts = rows_at (codes "host") tree in
    let routers = rows_at (codes "router") tree in
    let links = rows_at (codes "link") tree in
    let routes = rows_at (codes "route") tree in
    let zone_routes = rows_at (codes "zone_route") tree in
    let spokes = rows_at (codes "spoke") tree in
    let profiles = rows_at (codes "profile") tree in
    let state_profiles = rows_at (codes "state_profile") tree in
    let spoke = spoke_row names (link_ends (links_of tree)) in
    record {
      few_zones = omega (arith, length-map zones (zone_row names), rows_few names tree _ Zone none.zones);
      few_hosts = omega (arith, length-map hosts (host_row names), rows_few names tree _ Host none.hosts);
      few_routers = omega (arith, length-map routers (router_row names), rows_few names tree _ Router none.routers);
      few_links = omega (arith, length-map links link_row, rows_few names tree _ Link none.links);
      few_routes = omega (arith, length-map routes (route_row names), rows_few names tree _ Route none.routes);
      few_zone_routes = omega (arith, length-map zone_routes (zone_route_row names), rows_few names tree _ ZoneRoute none.zone_routes);
      few_spokes = omega (arith, length-map spokes spoke, rows_few names tree _ Spoke none.spokes);
      few_profiles = omega (arith, length-map profiles (profile_row names), rows_few names tree _ Profile none.profiles);
      few_state_profiles = omega (arith, length-map state_profiles (state_profile_row names), rows_few names tree _ StateProfile none.state_profiles);
      zones = subst (λ c. All (IsZoneRow c) (map (zone_row names) zones)) same
          (All-map (IsZoneRow counts) (zone_row names) zones (rows_kept names tree _ Zone (λ row. IsZoneRow counts (zone_row names row)) (λ number row fine. zone_kept names counts kept number row fine) none.zones));
      hosts = subst (λ c. All (IsHostRow c) (map (host_row names) hosts)) same
          (All-map (IsHostRow counts) (host_row names) hosts (rows_kept names tree _ Host (λ row. IsHostRow counts (host_row names row)) (λ number row fine. host_kept names counts kept number row fine) none.hosts));
      routers = subst (λ c. All (IsRouterRow c) (map (router_row names) routers)) same
          (All-map (IsRouterRow counts) (router_row names) routers (rows_kept names tree _ Router (λ row. IsRouterRow counts (router_row names row)) (λ number row fine. router_kept names counts kept number row fine) none.routers));
      links = All-map IsLinkRow link_row links (rows_kept names tree _ Link (λ row. IsLinkRow (link_row row)) (λ number row fine. link_kept names number row fine) none.links);
      routes = subst (λ c. All (IsRouteRow c) (map (route_row names) routes)) same
          (All-map (IsRouteRow counts) (route_row names) routes (rows_kept names tree _ Route (λ row. IsRouteRow counts (route_row names row)) (λ number row fine. route_kept names counts kept number row fine) none.routes));
      zone_routes = subst (λ c. All (IsZoneRouteRow c) (map (zone_route_row names) zone_routes)) same
          (All-map (IsZoneRouteRow counts) (zone_route_row names) zone_routes (rows_kept names tree _ ZoneRoute (λ row. IsZoneRouteRow counts (zone_route_row names row)) (λ number row fine. zone_route_kept names counts kept number row fine) none.zone_routes));
      spokes = subst (λ c. All (IsSpokeRow c) (map spoke spokes)) same
          (All-map (IsSpokeRow counts) spoke spokes (rows_kept names tree _ Spoke (λ row. IsSpokeRow counts (spoke row)) (λ number row fine. spoke_kept names counts kept (links_of tree) ends number row fine) none.spokes));
      network = network_kept (rows_at (codes "network") tree) (rows_kept names tree _ Network (λ row. IsNetwork (network_row row)) (λ number row fine. network_row_kept names number row fine) none.network);
      profiles = subst (λ c. All (IsProfileRow c) (map (profile_row names) profiles)) same
          (All-map (IsProfileRow counts) (profile_row names) profiles (rows_kept names tree _ Profile (λ row. IsProfileRow counts (profile_row names row)) (λ number row fine. profile_kept names counts kept number row fine) none.profiles));
      state_profiles = subst (λ c. All (IsStateProfileRow c) (map (state_profile_row names) state_profiles)) same
          (All-map (IsStateProfileRow counts) (state_profile_row names) state_profiles (rows_kept names tree _ StateProfile (λ row. IsStateProfileRow counts (state_profile_row names row)) (λ number row fine. state_profile_kept names counts kept number row fine) none.state_profiles));
    }

links_count : (tree : Members) → (counts_in tree).links ≡ length (link_ends (links_of tree))
unfolding counts_in
links_count tree = refl

pub platform_without_faults : (names : Known) (tree : Members) → names ≡ platform_known tree → first (faults_of names platform_tables tree) ≡ None → IsPlatform (platform_rows names tree)
platform_without_faults names tree known none =
    rows_platform names tree (counts_in tree) (counts_same names tree) (subst (λ k. IsCounted k (counts_in tree)) (sym known) (counted tree)) (links_count tree) (no_faults names tree none)
