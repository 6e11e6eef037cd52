use Rattle.std.proofs.Common.{◌≡◌, ◌++◌, drop}
use Rattle.std.specs.Prelude.{map}
use Rattle.sg_zones.proofs.paths.parents_of.Given as goal

abbrev pub invariant-loop-row : goal.invariant-loop-row
invariant-loop-row l = map (λ row. row.parent) l.zones ≡ l.made.items ++ map (λ row. row.parent) (drop l.row-index l.zones)
