use Rattle.std.proofs.Common.{◌≡◌, true, All, length}
use Rattle.sg_activity.proofs.beginning.all_on.Given as goal

abbrev pub invariant-loop-number : goal.invariant-loop-number
invariant-loop-number l = record {
  on : All (λ b. b ≡ true) l.on.items;
  long : length l.on.items ≡ l._number;
}
