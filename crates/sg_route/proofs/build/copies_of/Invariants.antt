use Rattle.std.proofs.Common.{◌≡◌, ◌++◌, drop}
use Rattle.sg_route.proofs.build.copies_of.Given as goal

abbrev pub invariant-loop-row : goal.invariant-loop-row
invariant-loop-row l = l.rows ≡ l.copies.items ++ drop l.row-index l.rows
