-- The platform that a text describes; or its fault of least place, and there of least kind, and none if it isn't TOML.
use Rattle.std.specs.Prelude.{ℕ, List, map, length, codes, if◌then◌else◌, nat_lt, Option, Some, None, Result, Ok, Err}
use Rattle.std.specs.Option.{option_map_or}
use Rattle.sg_platform.specs.Build.{host_row, link_row, network_row, profile_row, route_row, router_row, spoke_row, state_profile_row, zone_route_row, zone_row}
use Rattle.sg_platform_rows.specs.Ends.{link_ends}
use Rattle.sg_platform_rows.specs.Network.{plain_network}
use Rattle.sg_platform_rows.specs.Platform.{Platform}
use Rattle.sg_platform_rows.specs.declared.rows.LinkRow.{LinkRow}
use Rattle.sg_toml_rules.specs.Faults.{faults_of}
use Rattle.sg_toml_tree.specs.Names.{Known, platform_known}
use Rattle.sg_toml_keys.specs.Tables.{platform_tables}
use Rattle.sg_toml_keys.specs.declared.tables.Table.{Table}
use Rattle.sg_toml_tree.specs.Along.{first}
use Rattle.sg_toml_tree.specs.Tree.{tree_of, rows_at}
use Rattle.sg_toml_tree.specs.declared.fault.Fault.{Fault}
use Rattle.sg_toml_tree.specs.declared.fault.Kind.TheVariants.{Limit}
use Rattle.toml.specs.Data.{Members}

-- the links that a platform text declares, without the loopback
abbrev pub links_of : Members → List LinkRow
links_of tree = map link_row (rows_at (codes "link") tree)

-- the rows of a tree that has no fault; it may have one row of the network
unfoldable pub platform_rows : Known → Members → Platform
platform_rows names tree = record {
  zones = map (zone_row names) (rows_at (codes "zone") tree);
  hosts = map (host_row names) (rows_at (codes "host") tree);
  routers = map (router_row names) (rows_at (codes "router") tree);
  links = links_of tree;
  routes = map (route_row names) (rows_at (codes "route") tree);
  zone_routes = map (zone_route_row names) (rows_at (codes "zone_route") tree);
  spokes = map (spoke_row names (link_ends (links_of tree))) (rows_at (codes "spoke") tree);
  network = option_map_or network_row (first (rows_at (codes "network") tree)) plain_network;
  profiles = map (profile_row names) (rows_at (codes "profile") tree);
  state_profiles = map (state_profile_row names) (rows_at (codes "state_profile") tree);
}

-- the first fault of a tree that may have these tables, by the names that are known in it, else its rows
unfoldable pub tree_by : {R : Type 0} → (Members → Known) → List Table → (Known → Members → R) → Members
    → Result R (Option Fault)
tree_by known tables rows tree =
    option_map_or (λ f. Err (Some f)) (first (faults_of (known tree) tables tree)) (Ok (rows (known tree) tree))

-- the greatest text that is read, in bytes
abbrev pub greatest_text : ℕ
greatest_text = 16777216

-- a longer one is over a limit as a whole
abbrev pub too_long : Fault
too_long = record { place = record { table = 0; row = 0; key = 0 }; kind = Limit }

-- what the tree of a text gives
abbrev pub text_by : {R : Type 0} → (Members → Result R (Option Fault)) → List ℕ → Result R (Option Fault)
text_by given bytes = if nat_lt greatest_text (length bytes) then Err (Some too_long) else option_map_or given (tree_of bytes) (Err None)

-- the platform that a text describes, or its first fault; no fault is named if it is not TOML
unfoldable pub platform_of : List ℕ → Result Platform (Option Fault)
platform_of bytes = text_by (tree_by platform_known platform_tables platform_rows) bytes
