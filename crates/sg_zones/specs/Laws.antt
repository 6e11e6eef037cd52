-- What the faults of the zone tree mean, and what the tree says, without any number of steps.
use Rattle.std.specs.Prelude.{◌≡◌, ◌≢◌, ◌<◌, ◌↔◌, ◌+◌, ℕ, None, Some, length, true}
use Rattle.sg_base.specs.declared.ids.PointId.{PointId}
use Rattle.sg_base.specs.declared.ids.ZoneId.{ZoneId}
use Rattle.sg_platform_rows.specs.Platform.{Platform}
use Rattle.sg_zones.specs.Paths.{ancestor, parent_zone}
use Rattle.sg_zones.specs.Tree.{depth, holds, home, zone_tree}

-- if 1,024 steps up don't leave the tree, no number of steps does
abbrev pub CyclesNeverEnd : Platform → Type 0
CyclesNeverEnd p = (zone : ZoneId) → ancestor 1024 p.zones zone ≢ None → (steps : ℕ) → ancestor steps p.zones zone ≢ None

-- some steps up from the one zone lead to the other
pub record IsUp (p : Platform) (from to : ZoneId) : Type 0 where
  pub steps : ℕ
  pub leads : ancestor steps p.zones from ≡ Some to

-- so many steps up lead to a zone with none above it
pub record IsRootUp (p : Platform) (from : ZoneId) (steps : ℕ) : Type 0 where
  pub root : ZoneId
  pub leads : ancestor steps p.zones from ≡ Some root
  pub top : parent_zone p.zones root ≡ None

-- a zone holds the points from whose zones some steps up lead to it
abbrev pub HoldsByStepsUp : Platform → Type 0
HoldsByStepsUp p = (zone : ZoneId) (point : PointId) → point.0 < length (zone_tree p).homes
    → (holds (zone_tree p) zone point ≡ true) ↔ IsUp p (home (zone_tree p) point) zone

-- the root has depth 1, and each other zone as many more as there are steps up from it to the root
pub record HasDepthByStepsUp (p : Platform) (zone : ZoneId) : Type 0 where
  pub steps : ℕ
  pub up : IsRootUp p zone steps
  pub depth : depth (zone_tree p) zone ≡ steps + 1

abbrev pub DepthByStepsUp : Platform → Type 0
DepthByStepsUp p = (zone : ZoneId) → zone.0 < length p.zones → HasDepthByStepsUp p zone
