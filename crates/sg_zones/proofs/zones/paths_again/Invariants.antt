use Rattle.std.proofs.Common.{◌≡◌, ◌++◌, drop}
use Rattle.sg_zones.proofs.zones.paths_again.Given as goal

abbrev pub invariant-loop-path : goal.invariant-loop-path
invariant-loop-path l = l.paths ≡ l.made.items ++ drop l.path-index l.paths
