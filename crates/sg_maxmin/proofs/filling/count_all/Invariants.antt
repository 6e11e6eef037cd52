use Rattle.std.proofs.Common.{◌≡◌, ℕ, ◌≤◌, ◌<◌, ◌+◌, ◌*◌, ◌^◌, take, get_or, slice_index}
use Rattle.sg_maxmin.specs.kept.Counting.{AreCounted, count_of}
use Rattle.sg_maxmin.proofs.filling.count_all.Given as goal

abbrev pub invariant-loop-count : goal.invariant-loop-count
invariant-loop-count g l = (k : ℕ) → k < l.count-index → get_or l.waiting k 0 ≡ 0

abbrev pub invariant-loop-id : goal.invariant-loop-id
invariant-loop-id g l = record {
  counted : AreCounted l.capacities (take l.id l.flows) l.uses.uses l.left l.waiting;
  few : (c : ℕ) → slice_index l.waiting c ≤ l.id * 2 ^ 32;
  looks : l.steps ≡ l.fn.steps + count_of (take l.id l.flows);
}
