use Rattle.std.proofs.Common.{◌≡◌, ◌-◌, ◌≤◌, vec_len, length}
use Rattle.std.specs.Prelude.{vec_capacity}
use Rattle.sg_heap.specs.kept.Heap.{GrowsTo}
use Rattle.sg_heap.proofs.agenda.add_slots.Given as goal

abbrev pub invariant-loop-slot : goal.invariant-loop-slot
invariant-loop-slot l = record {
  heap_len : vec_len l.heap ≡ l.slot;
  place_len : vec_len l.place ≡ l.slot;
  heap_room : l.slots ≤ vec_capacity l.heap;
  place_room : l.slots ≤ vec_capacity l.place;
  heap_capacity : vec_capacity l.heap ≡ vec_capacity l.fn.heap;
  place_capacity : vec_capacity l.place ≡ vec_capacity l.fn.place;
  least : length l.fn.place.items ≤ l.slot;
  most : l.slot - length l.fn.place.items ≤ l.slots - length l.fn.place.items;
  grows : GrowsTo l.slot l.fn.heap.items l.fn.place.items l.heap.items l.place.items;
}
