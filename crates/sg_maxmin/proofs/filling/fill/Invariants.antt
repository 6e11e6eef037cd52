use Rattle.std.proofs.Common.{◌≡◌, ◌+◌, ◌*◌, ◌<◌, ◌≤◌, length}
use Rattle.sg_maxmin.specs.Fixing.{steps_from, unfixed}
use Rattle.sg_maxmin.specs.Sharing.{held}
use Rattle.sg_maxmin.specs.kept.Uses.{flows_of}
use Rattle.sg_maxmin.specs.kept.Counting.{SameRows, AreFixed, count_of}
use Rattle.sg_maxmin.proofs.filling.fill.Given as goal

abbrev pub invariant-loop-n : goal.invariant-loop-n
invariant-loop-n g l = record {
  same : SameRows l.fn.flows l.flows;
  fixed : AreFixed l.uses.uses l.flows (steps_from l.n l.capacities (held (flows_of l.flows l.uses.uses)) unfixed);
  left_len : length l.left ≡ length l.capacities;
  waiting_len : length l.waiting ≡ length l.capacities;
  len : length l.flows ≡ length l.fn.flows;
  most : l.steps ≤ l.fn.steps + 3 * l.n * count_of l.fn.flows;
  grows : l.fn.steps ≤ l.steps;
  looks : 0 < l.n → l.fn.steps + count_of l.fn.flows ≤ l.steps;
}
