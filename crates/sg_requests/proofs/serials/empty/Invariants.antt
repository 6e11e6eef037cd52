use Rattle.std.proofs.Common.{◌≡◌, ◌≤◌, ◌+◌, ◌++◌, [], length, map, vec_capacity, vec_len}
use Rattle.std.specs.Prelude.{slice_set}
use Rattle.sg_queues.specs.Queues.{values_of}
use Rattle.sg_queues.specs.Rings.{queue_at}
use Rattle.sg_requests.specs.Requested.{serial_of}
use Rattle.sg_requests.proofs.serials.empty.Given as goal

abbrev pub invariant-loop-request : goal.invariant-loop-request
invariant-loop-request l = record {
  items : l.serials.items ++ map serial_of (queue_at (values_of l.queues.queues) l.queue) ≡ l.fn.serials.items ++ map serial_of (queue_at (values_of l.fn.queues.queues) l.queue);
  rest : slice_set (values_of l.queues.queues) l.queue [] ≡ slice_set (values_of l.fn.queues.queues) l.queue [];
  long : length l.queues.queues ≡ length l.fn.queues.queues;
  slots : l.fn.queues.room ≤ l.queues.room;
  capacity : vec_capacity l.fn.serials ≤ vec_capacity l.serials;
  len : vec_len l.serials + length (queue_at l.queues.queues l.queue) ≡ vec_len l.fn.serials + length (queue_at l.fn.queues.queues l.queue);
}

abbrev pub decreases-loop-request : goal.decreases-loop-request
decreases-loop-request l = length (queue_at l.queues.queues l.queue)
