use Rattle.std.proofs.Common.{◌∙◌, ap, codes, map, refl}
use Rattle.sg_platform.proofs.RowsRead.{rows_read}
use Rattle.sg_platform.specs.Build.{link_row, network_row, profile_row, route_row, spoke_row, state_profile_row, zone_route_row}
use Rattle.sg_platform_rows.specs.Ends.{link_ends}
use Rattle.sg_platform_rows.specs.Network.{plain_network}
use Rattle.sg_toml_tree.specs.Along.{first}
use Rattle.std.specs.Option.{option_map_or}
use Rattle.sg_toml_tree.specs.kept.NamesView.{names_view}
use Rattle.toml.specs.View.{table_view}
use Rattle.sg_platform.proofs.platform.read_all.Goals as goal

pub read_ways-requires : goal.read_ways-requires
read_ways-requires c = rw (c.in_ok-places.ensures.others (codes "link") (refl, (refl, (refl, tt)))) c.requires

pub returns : goal.returns
returns c =
    let names = names_view c.args.names.now in
    let places = c.in_ok-places.ensures in
    let ways = c.in_ok-ways.ensures in
    let profiles = c.in_ok-profiles.ensures in
    let links = c.in_ok-ways.ways.0.items in
    rows_read names (table_view c.args.tree.now) _ (record {
      zones = places.zones;
      hosts = places.hosts;
      routers = places.routers;
      links = ways.links ∙ ap (map link_row) (places.others (codes "link") (refl, (refl, (refl, tt))));
      routes = ways.routes ∙ ap (map (route_row names)) (places.others (codes "route") (refl, (refl, (refl, tt))));
      zone_routes = ways.zone_routes ∙ ap (map (zone_route_row names)) (places.others (codes "zone_route") (refl, (refl, (refl, tt))));
      spokes = ways.spokes ∙ ap (map (spoke_row names (link_ends links))) (places.others (codes "spoke") (refl, (refl, (refl, tt))));
      network = c.network_of-network.ensures ∙ ap (λ rows. option_map_or network_row (first rows) plain_network) c.rows_at.ensures;
      profiles = profiles.profiles ∙ ap (map (profile_row names))
          (ways.others (codes "profile") (refl, (refl, (refl, (refl, tt)))) ∙ places.others (codes "profile") (refl, (refl, (refl, tt))));
      state_profiles = profiles.state_profiles ∙ ap (map (state_profile_row names))
          (ways.others (codes "state_profile") (refl, (refl, (refl, (refl, tt)))) ∙ places.others (codes "state_profile") (refl, (refl, (refl, tt))));
    })
