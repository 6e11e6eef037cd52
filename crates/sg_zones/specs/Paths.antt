-- The way from a zone up to the root, and the zones from the root down to it.
use Rattle.std.specs.Prelude.{ℕ, suc, zero, Option, Some, List, [], ◌∷◌, ◌++◌, length, map, slice_get, option_and_then}
use Rattle.std.specs.List.{range_with_len}
use Rattle.std.specs.Option.{option_map_or}
use Rattle.sg_base.specs.declared.ids.ZoneId.{ZoneId}
use Rattle.sg_platform_rows.specs.declared.rows.ZoneRow.{ZoneRow}

-- the zone above this one; the root has none
abbrev pub parent_zone : List ZoneRow → ZoneId → Option ZoneId
parent_zone zones zone = option_and_then (λ row. row.parent) (slice_get zones zone.0)

-- the zone so many steps up, if the path up is so long
unfoldable pub ancestor : ℕ → List ZoneRow → ZoneId → Option ZoneId
ancestor zero zones zone = Some zone
ancestor (suc steps) zones zone = option_and_then (ancestor steps zones) (parent_zone zones zone)

-- the zones from the root down to this one, of which there are so many at most
unfoldable pub path : ℕ → List ZoneRow → ZoneId → List ZoneId
path zero zones zone = []
path (suc levels) zones zone = option_map_or (path levels zones) (parent_zone zones zone) [] ++ zone ∷ []

-- of each zone the one so many steps up
abbrev pub ancestors_of : ℕ → List ZoneRow → List (Option ZoneId)
ancestors_of steps zones = map (λ i. ancestor steps zones (record { 0 = i })) (range_with_len 0 (length zones))
