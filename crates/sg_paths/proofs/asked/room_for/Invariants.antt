use Rattle.sg_paths.specs.Asked.{AreFree}
use Rattle.sg_paths.proofs.asked.room_for.Given as goal

abbrev pub invariant-filling : goal.invariant-filling
invariant-filling l = AreFree l.asked.items
