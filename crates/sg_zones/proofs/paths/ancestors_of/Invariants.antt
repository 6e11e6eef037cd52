use Rattle.std.proofs.Common.{◌≡◌, ◌^◌}
use Rattle.sg_zones.specs.Paths.{ancestors_of}
use Rattle.sg_zones.proofs.paths.ancestors_of.Given as goal

abbrev pub invariant-loop : goal.invariant-loop
invariant-loop l = l.ancestors.items ≡ ancestors_of (2 ^ l.counter) l.zones
