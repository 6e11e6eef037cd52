-- One path more.
use Rattle.std.proofs.Common.{arith}
use Rattle.std.proofs.lemmas.List.FromFn.{map-range_with_len_more}
use Rattle.sg_zones.specs.Paths.{path}
use Rattle.sg_zones.proofs.paths.paths_of.Goals as goal

pub loop-i-preserved : goal.loop-i-preserved
loop-i-preserved c = grind (arith, map-range_with_len_more (λ i. path 16 c.args.zones.now (record { 0 = i })) 0 c.loop-i.i c.loop-i.i (omega arith))
