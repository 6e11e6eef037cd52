use Rattle.std.proofs.Common.{◌≡◌, ◌≤◌, ◌+◌, ◌++◌, length}
use Rattle.std.specs.Vec.{vec_capacity}
use Rattle.sg_queues.specs.Rings.{queue_at}
use Rattle.sg_sync.proofs.sync.tell_all.Given as goal

abbrev pub invariant-loop-actor : goal.invariant-loop-actor
invariant-loop-actor l = record {
  told : l.others.items ++ queue_at l.arrived.queues 0 ≡ queue_at l.initial.arrived.queues 0;
  actors : l.arrived.actors ≡ l.initial.arrived.actors;
  one : length l.arrived.queues ≡ 1;
  room : l.initial.arrived.actors + 2 ≤ vec_capacity l.others;
  capacity : vec_capacity l.initial.others ≤ vec_capacity l.others;
  few : length (queue_at l.initial.arrived.queues 0) ≤ l.initial.arrived.actors + 2;
}

abbrev pub decreases-loop-actor : goal.decreases-loop-actor
decreases-loop-actor l = length (queue_at l.arrived.queues 0)
