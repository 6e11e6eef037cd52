use Rattle.std.proofs.Common.{◌≡◌, ℕ, ◌≤◌, length, slice_index}
use Rattle.sg_maxmin.specs.Numbered.{level_at}
use Rattle.sg_maxmin_levels.proofs.levels.grow_rows.Given as goal

abbrev pub invariant-loop-number : goal.invariant-loop-number
invariant-loop-number l = record {
  levels_are : (id : ℕ) → level_at l.levels.items id ≡ level_at l.fn.levels.items id;
  grows : length l.fn.levels.items ≤ length l.levels.items;
  room : l._number ≤ length l.levels.items;
}

abbrev pub invariant-loop-number-2 : goal.invariant-loop-number-2
invariant-loop-number-2 l = record {
  levels_are : (id : ℕ) → level_at l.levels.items id ≡ level_at l.fn.levels.items id;
  levels_grow : length l.fn.levels.items ≤ length l.levels.items;
  levels_room : l.n ≤ length l.levels.items;
  parts_are : (id : ℕ) → slice_index l.parts.items id ≡ slice_index l.fn.parts.items id;
  grows : length l.fn.parts.items ≤ length l.parts.items;
  room : l._number ≤ length l.parts.items;
}
