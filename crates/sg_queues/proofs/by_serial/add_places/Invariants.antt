use Rattle.std.proofs.Common.{◌≡◌, ℕ, None, slice_index_or}
use Rattle.sg_queues.proofs.by_serial.add_places.Given as goal

abbrev pub invariant-loop-at : goal.invariant-loop-at
invariant-loop-at g l = (at : ℕ) → slice_index_or l.near.items at None ≡ slice_index_or l.fn.near.items at None
