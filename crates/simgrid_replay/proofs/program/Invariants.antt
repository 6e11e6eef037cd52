use Rattle.std.proofs.Common.{◌≡◌, ◌+◌, length}
use Rattle.simgrid_replay.proofs.program.Given as goal

abbrev pub ghosts-start : goal.ghosts-start
ghosts-start g a = record { name = a.blank.name; parts = a.blank.parts }

abbrev pub invariant-loop-pair : goal.invariant-loop-pair
invariant-loop-pair g l = length l.crew.items ≡ l._pair + l._pair
