use Rattle.std.proofs.Common.{◌≡◌, ◌++◌, drop, None}
use Rattle.std.specs.Prelude.{map, option_and_then, slice_index_or}
use Rattle.sg_zones.proofs.paths.twice.Given as goal

abbrev pub invariant-loop-ancestor : goal.invariant-loop-ancestor
invariant-loop-ancestor l =
    map (λ ancestor. option_and_then (λ zone. slice_index_or l.ancestors zone.0 None) ancestor) l.ancestors
    ≡ l.made.items ++ map (λ ancestor. option_and_then (λ zone. slice_index_or l.ancestors zone.0 None) ancestor) (drop l.ancestor-index l.ancestors)
