-- What was read of each table of a platform is what the tree gives.
use Rattle.std.proofs.Common.{◌≡◌, ◌∙◌, ap, codes, map}
use Rattle.sg_platform.specs.Build.{host_row, network_row, profile_row, route_row, router_row, spoke_row, state_profile_row, zone_route_row, zone_row}
use Rattle.sg_platform.specs.PlatformOf.{links_of, platform_rows}
use Rattle.sg_platform_rows.specs.Ends.{link_ends}
use Rattle.sg_platform_rows.specs.Network.{plain_network}
use Rattle.sg_platform_rows.specs.Platform.{Platform}
use Rattle.sg_toml_tree.specs.Along.{first}
use Rattle.std.specs.Option.{option_map_or}
use Rattle.sg_toml_tree.specs.Names.{Known}
use Rattle.sg_toml_tree.specs.Tree.{rows_at}
use Rattle.toml.specs.Data.{Members}

-- each table was read
pub record IsRead (names : Known) (tree : Members) (p : Platform) : Type 0 where
  pub zones : p.zones ≡ map (zone_row names) (rows_at (codes "zone") tree)
  pub hosts : p.hosts ≡ map (host_row names) (rows_at (codes "host") tree)
  pub routers : p.routers ≡ map (router_row names) (rows_at (codes "router") tree)
  pub links : p.links ≡ links_of tree
  pub routes : p.routes ≡ map (route_row names) (rows_at (codes "route") tree)
  pub zone_routes : p.zone_routes ≡ map (zone_route_row names) (rows_at (codes "zone_route") tree)
  pub spokes : p.spokes ≡ map (spoke_row names (link_ends p.links)) (rows_at (codes "spoke") tree)
  pub network : p.network ≡ option_map_or network_row (first (rows_at (codes "network") tree)) plain_network
  pub profiles : p.profiles ≡ map (profile_row names) (rows_at (codes "profile") tree)
  pub state_profiles : p.state_profiles ≡ map (state_profile_row names) (rows_at (codes "state_profile") tree)

pub rows_read : (names : Known) (tree : Members) (p : Platform) → IsRead names tree p → p ≡ platform_rows names tree
unfolding platform_rows
rows_read names tree p read =
    let spokes = read.spokes ∙ ap (λ links. map (spoke_row names (link_ends links)) (rows_at (codes "spoke") tree)) read.links in
    λ i. record {
      zones = read.zones i;
      hosts = read.hosts i;
      routers = read.routers i;
      links = read.links i;
      routes = read.routes i;
      zone_routes = read.zone_routes i;
      spokes = spokes i;
      network = read.network i;
      profiles = read.profiles i;
      state_profiles = read.state_profiles i;
    }
