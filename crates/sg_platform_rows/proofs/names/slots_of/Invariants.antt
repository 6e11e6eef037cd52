use Rattle.std.specs.List.{All}
use Rattle.sg_platform_rows.specs.kept.Slots.{IsSlot}
use Rattle.sg_platform_rows.proofs.names.slots_of.Given as goal

abbrev pub invariant-loop-index : goal.invariant-loop-index
invariant-loop-index l = All (IsSlot l.map) l.slots.items
