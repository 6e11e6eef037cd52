use Rattle.std.proofs.Common.{◌≡◌, ℕ, ◌-◌, ◌≤◌, length, max}
use Rattle.sg_activity.specs.kept.Rows.{uses_at}
use Rattle.sg_activity.proofs.index.grow_rows.Given as goal

abbrev pub invariant-loop-rows : goal.invariant-loop-rows
invariant-loop-rows l = record {
  same : (key : ℕ) → uses_at l.rows.items key ≡ uses_at l.fn.rows.items key;
  longer : length l.fn.rows.items ≤ length l.rows.items;
  few : length l.rows.items ≤ max (length l.fn.rows.items) l.n;
}

abbrev pub decreases-loop-rows : goal.decreases-loop-rows
decreases-loop-rows l = l.n - length l.rows.items
