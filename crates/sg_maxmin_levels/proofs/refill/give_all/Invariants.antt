use Rattle.std.proofs.Common.{◌≤◌, ◌+◌, take}
use Rattle.sg_maxmin.specs.Numbered.{all_uses}
use Rattle.sg_maxmin_levels.specs.Kept.{AreGiven, FlowsStayWithin, IsKept, NotesMoved}
use Rattle.sg_maxmin_levels.proofs.refill.give_all.Given as goal

abbrev pub invariant-loop-flow : goal.invariant-loop-flow
invariant-loop-flow g l = record {
  given : AreGiven l.system (take l.flow-index l.flows) l.levels l.fn.kept l.kept;
  kept : IsKept l.system l.kept;
  moved : NotesMoved l.fn.kept l.kept;
  within : FlowsStayWithin l.system l.flows l.fn.kept l.kept;
  looks : l.steps ≤ l.fn.steps + all_uses l.system.slots (take l.flow-index l.flows);
}
