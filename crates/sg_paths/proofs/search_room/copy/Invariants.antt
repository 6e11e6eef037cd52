use Rattle.std.proofs.Common.{◌≡◌, ◌≤◌, length, take, vec_capacity}
use Rattle.sg_paths.proofs.search_room.copy.Given as goal

abbrev pub invariant-loop-route : goal.invariant-loop-route
invariant-loop-route l = record {
  copied : l.copied.items ≡ take l.route-index l.routes;
  room : length l.routes ≤ vec_capacity l.copied;
}
