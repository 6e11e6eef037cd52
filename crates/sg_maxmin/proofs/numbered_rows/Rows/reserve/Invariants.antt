use Rattle.std.proofs.Common.{◌≡◌, ℕ, ◌+◌, length, count_by, is_some}
use Rattle.sg_maxmin.specs.kept.Numbers.{row_at}
use Rattle.sg_maxmin.proofs.numbered_rows.Rows.reserve.Given as goal

abbrev pub invariant-loop-number : goal.invariant-loop-number
invariant-loop-number l = record {
  kept : (id : ℕ) → row_at l.self id ≡ row_at l.fn.self id;
  long : length l.self ≡ length l.fn.self + l._number;
  same : count_by is_some l.self ≡ count_by is_some l.fn.self;
}
