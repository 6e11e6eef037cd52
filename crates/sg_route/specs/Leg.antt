-- The lowest zone that holds two points.
use Rattle.std.specs.Prelude.{◌==◌, if◌then◌else◌, List, ◌∷◌, slice_get}
use Rattle.std.specs.Option.{option_map_or}
use Rattle.sg_base.specs.declared.ids.ZoneId.{ZoneId}
use Rattle.sg_base.specs.declared.ids.PointId.{PointId}
use Rattle.sg_base.specs.declared.ids.Child.{Child}
use Rattle.sg_base.specs.declared.ids.Child.TheVariants.{Point, Zone}
use Rattle.sg_route.specs.declared.leg.Leg.{Leg}

-- the first zone of what is left of a path, or the point itself
abbrev pub child_towards : PointId → List ZoneId → Child
child_towards point rest = option_map_or Zone (slice_get rest 0) (Point point)

-- Both paths are followed down from the root as long as they agree: the last zone on both is the lowest that holds both
-- points, and the next steps are its children that hold them.
abbrev pub lowest_leg : ZoneId → PointId → PointId → List ZoneId → List ZoneId → Leg
lowest_leg last from to (x ∷ rest_from) (y ∷ rest_to) =
    if x.0 == y.0 then lowest_leg x from to rest_from rest_to else record { zone = last; from = Zone x; to = Zone y }
lowest_leg last from to above_from above_to = record { zone = last; from = child_towards from above_from; to = child_towards to above_to }
