use Rattle.std.proofs.Common.{◌≡◌, ◌≤◌, ◌<◌, ◌+◌, ◌-◌, slice_set}
use Rattle.sg_heap.specs.Agenda.{digits}
use Rattle.sg_heap.specs.kept.Heap.{keys_of, ArePlaced, MayMove}
use Rattle.sg_heap.proofs.sifting.drop_in.Given as goal

abbrev pub invariant-loop-at : goal.invariant-loop-at
invariant-loop-at g l = record {
  in_range : l.at < l.count;
  placed : ArePlaced (slice_set l.heap l.at l.entry) (slice_set l.place l.entry.slot l.at);
  loose : MayMove (slice_set l.heap l.at l.entry) l.count l.at;
  keys : keys_of (slice_set l.heap l.at l.entry) (slice_set l.place l.entry.slot l.at) l.count ≡ keys_of (slice_set l.fn.heap l.from l.entry) (slice_set l.fn.place l.entry.slot l.from) l.count;
  most : l.steps + digits (l.from + 1) ≤ l.fn.steps + digits (l.at + 1);
}

abbrev pub decreases-loop-at : goal.decreases-loop-at
decreases-loop-at g l = l.count - l.at
