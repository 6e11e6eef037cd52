use Rattle.std.proofs.Common.{◌≡◌, ◌+◌, ◌*◌, ◌<◌, ◌≤◌, ◌++◌, ℕ, List, length, vec_capacity}
use Rattle.sg_base.specs.declared.ids.LinkId.{LinkId}
use Rattle.sg_paths.specs.Trail.{hop_links, IsTrail}
use Rattle.sg_paths.proofs.trail.write_links.Given as goal

abbrev pub invariant-loop-at : goal.invariant-loop-at
invariant-loop-at l = record {
  there : l.at < length l.settled;
  room : length l.out.items + l.at * l.most ≤ vec_capacity l.out;
  capacity : vec_capacity l.out ≡ vec_capacity l.fn.out;
  links : (label : ℕ → List LinkId) → IsTrail l.routes l.settled label → hop_links l.routes label l.fn.hop ≡ l.out.items ++ label l.at;
}

abbrev pub decreases-loop-at : goal.decreases-loop-at
decreases-loop-at l = l.at
