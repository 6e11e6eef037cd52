-- What a router knows of a platform.
use Rattle.std.specs.Prelude.{List, ◌++◌}
use Rattle.std.specs.List.{flat_map}
use Rattle.sg_platform_rows.specs.Ends.{link_ends}
use Rattle.sg_platform_rows.specs.Platform.{Platform}
use Rattle.sg_platform_rows.specs.declared.ends.LinkEnd.{LinkEnd}
use Rattle.sg_platform_rows.specs.declared.rows.SpokeRow.{SpokeRow}
use Rattle.sg_route.specs.declared.locals.Local.{Local}
use Rattle.sg_route.specs.Local.{route_local, row_locals, zone_route_local}
use Rattle.sg_zones.specs.Tree.{Tree, zone_tree}

-- the zone tree, the local routes that rows declare, the spokes, and the links
pub record Roads : Type 0 where
  pub tree : Tree
  pub locals : List Local
  pub spokes : List SpokeRow
  pub ends : List LinkEnd

-- what routing needs of a platform: its zone tree, the local routes that its rows declare, in their order and each with
-- its reverse after it if it is symmetrical, its spokes and its links
abbrev pub roads_of : Platform → Roads
roads_of p = record {
  tree = zone_tree p;
  locals = flat_map (λ row. row_locals (link_ends p.links) row.symmetrical (route_local row)) p.routes
      ++ flat_map (λ row. row_locals (link_ends p.links) row.symmetrical (zone_route_local row)) p.zone_routes;
  spokes = p.spokes;
  ends = link_ends p.links;
}
