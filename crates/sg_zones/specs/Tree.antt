-- The zone tree.
use Rattle.std.specs.Prelude.{◌==◌, ℕ, Bool, Option, List, [], ◌++◌, length, map, slice_index_or}
use Rattle.std.specs.List.{list_any, range_with_len}
use Rattle.sg_base.specs.declared.ids.PointId.{PointId}
use Rattle.sg_base.specs.declared.ids.ZoneId.{ZoneId}
use Rattle.sg_platform_rows.specs.Platform.{Platform}
use Rattle.sg_platform_rows.specs.declared.rows.Routing.{Routing}
use Rattle.sg_platform_rows.specs.declared.rows.Routing.TheVariants.{Full}
use Rattle.sg_zones.specs.Paths.{path}

-- of each zone its parent, its routing and the path down to it, and of each point its zone
pub record Tree : Type 0 where
  pub parents : List (Option ZoneId)
  pub routings : List Routing
  pub paths : List (List ZoneId)
  pub homes : List ZoneId

-- the parents and routings of the zones of a platform, the path to each of at most 16 zones, and the zone of each host
-- and router
abbrev pub zone_tree : Platform → Tree
zone_tree p = record {
  parents = map (λ row. row.parent) p.zones;
  routings = map (λ row. row.routing) p.zones;
  paths = map (λ i. path 16 p.zones (record { 0 = i })) (range_with_len 0 (length p.zones));
  homes = map (λ row. row.zone) p.hosts ++ map (λ row. row.zone) p.routers;
}

-- the routing of a zone; one that isn't there has routing Full
abbrev pub routing_in : Tree → ZoneId → Routing
routing_in t zone = slice_index_or t.routings zone.0 Full

-- the zones from the root down to this one, empty if it isn't there
abbrev pub path_in : Tree → ZoneId → List ZoneId
path_in t zone = slice_index_or t.paths zone.0 []

-- the root has depth 1
abbrev pub depth : Tree → ZoneId → ℕ
depth t zone = length (path_in t zone)

-- the zone that a point stands in; one that isn't there stands in the first zone
abbrev pub home : Tree → PointId → ZoneId
home t point = slice_index_or t.homes point.0 (record { 0 = 0 })

-- the zone is on the path down to the point's own
abbrev pub holds : Tree → ZoneId → PointId → Bool
holds t zone point = list_any (λ z. z.0 == zone.0) (path_in t (home t point))
