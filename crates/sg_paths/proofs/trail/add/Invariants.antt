use Rattle.std.proofs.Common.{◌≡◌, ◌++◌, take, vec_capacity}
use Rattle.sg_paths.proofs.trail.add.Given as goal

abbrev pub invariant-loop-link : goal.invariant-loop-link
invariant-loop-link l = record {
  links : l.out.items ≡ l.initial.out.items ++ take l.link-index l.links;
  capacity : vec_capacity l.out ≡ vec_capacity l.initial.out;
}
