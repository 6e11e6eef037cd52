use Rattle.std.proofs.Common.{◌≡◌, ◌≤◌, ℕ, None, get_or, length}
use Rattle.sg_collectives.proofs.members.lengthen.Given as goal

abbrev pub invariant-loop-i : goal.invariant-loop-i
invariant-loop-i l = record {
  same : (k : ℕ) → get_or l.ranks.items k None ≡ get_or l.fn.ranks.items k None;
  long : l._i ≤ length l.ranks.items;
}
