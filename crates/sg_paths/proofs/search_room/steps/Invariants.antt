use Rattle.std.proofs.Common.{◌≡◌, ◌+◌, length}
use Rattle.sg_paths.specs.Ahead.{sum_to}
use Rattle.sg_paths.specs.Trail.{links_at}
use Rattle.sg_paths.proofs.search_room.steps.Given as goal

abbrev pub invariant-loop-i : goal.invariant-loop-i
invariant-loop-i l = l.steps ≡ sum_to (λ i. length (links_at l.routes i) + 1) l.i
