use Rattle.std.proofs.Common.{◌≡◌, ℕ, ◌≤◌, length}
use Rattle.sg_cases.specs.Pairs.{twin_of}
use Rattle.sg_cases.proofs.settling.lengthen.Given as goal

abbrev pub invariant-loop-id : goal.invariant-loop-id
invariant-loop-id l = record {
  same : (id : ℕ) → twin_of l.twins.items id ≡ twin_of l.fn.twins.items id;
  longer : length l.fn.twins.items ≤ length l.twins.items;
  long : l._id ≤ length l.twins.items;
}
