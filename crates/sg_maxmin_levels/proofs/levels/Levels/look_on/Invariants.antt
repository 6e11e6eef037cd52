use Rattle.std.proofs.Common.{◌≡◌, ◌+◌, ◌≤◌}
use Rattle.sg_maxmin_levels.specs.Joined.{spare_looks}
use Rattle.sg_maxmin_levels.specs.Allowed.{IsJoined}
use Rattle.sg_maxmin_levels.specs.Kept.{IsSettling, NotesMoved, StaysWithin}
use Rattle.sg_maxmin_levels.proofs.levels.Levels.look_on.Given as goal

abbrev pub invariant-loop-round : goal.invariant-loop-round
invariant-loop-round g l = record {
  settling : IsSettling l.system l.self;
  moved : NotesMoved l.fn.self l.self;
  within : StaysWithin l.system l.fn.self l.self;
  joined : IsJoined l.system l.fn.self l.given;
  ended : l.given.ended ≡ l.ended;
  spent : l.given.spent ≤ spare_looks l.given.known l.given.row l.given.ended;
  looks : l.steps ≤ l.fn.steps + l.given.spent;
}
