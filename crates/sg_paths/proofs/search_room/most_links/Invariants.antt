use Rattle.sg_paths.proofs.search_room.most_links.Given as goal
use Rattle.std.proofs.Common.{ℕ, ◌<◌, ◌≤◌, length}
use Rattle.sg_paths.specs.Trail.{links_at}

abbrev pub invariant-loop-route : goal.invariant-loop-route
invariant-loop-route l = (i : ℕ) → i < l.route-index → length (links_at l.routes i) ≤ l.most
