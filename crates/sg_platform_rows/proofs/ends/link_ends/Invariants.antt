use Rattle.std.proofs.Common.{◌≡◌, ◌≤◌, ◌*◌, length, drop, ◌++◌}
use Rattle.sg_platform_rows.specs.Ends.{ends_from}
use Rattle.sg_platform_rows.proofs.ends.link_ends.Given as goal

abbrev pub invariant-loop-row : goal.invariant-loop-row
invariant-loop-row l = record {
  split : ends_from 0 l.rows ≡ l.ends.items ++ ends_from l.first (drop l.row-index l.rows);
  first : l.first ≡ length l.ends.items;
  few : l.first ≤ 2 * l.row-index;
}
