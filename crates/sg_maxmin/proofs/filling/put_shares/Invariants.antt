use Rattle.std.proofs.Common.{◌≡◌, ◌≤◌, ◌<◌, ℕ, length, option_map}
use Rattle.sg_maxmin.specs.kept.Numbers.{row_at}
use Rattle.sg_maxmin.specs.kept.Counting.{with_share}
use Rattle.sg_maxmin.proofs.filling.put_shares.Given as goal

abbrev pub invariant-loop-id : goal.invariant-loop-id
invariant-loop-id l = record {
  done : (key : ℕ) → key < l.id → row_at l.flows key ≡ option_map with_share (row_at l.fn.flows key);
  rest : (key : ℕ) → l.id ≤ key → row_at l.flows key ≡ row_at l.fn.flows key;
  len : length l.flows ≡ length l.fn.flows;
}
