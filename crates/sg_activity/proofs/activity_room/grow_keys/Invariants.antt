use Rattle.std.proofs.Common.{◌≡◌, ℕ, ◌≤◌, length, slice_index}
use Rattle.sg_activity.proofs.activity_room.grow_keys.Given as goal

abbrev pub invariant-loop-id : goal.invariant-loop-id
invariant-loop-id l = record {
  same : (id : ℕ) → slice_index l.keys.items id ≡ slice_index l.fn.keys.items id;
  longer : length l.fn.keys.items ≤ length l.keys.items;
  long : l._id ≤ length l.keys.items;
}
