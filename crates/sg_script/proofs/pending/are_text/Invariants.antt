use Rattle.std.proofs.Common.{◌≡◌, take}
use Rattle.std.specs.List.{list_all}
use Rattle.sg_script.specs.kept.Front.{is_text}
use Rattle.sg_script.proofs.pending.are_text.Given as goal

abbrev pub invariant-loop-b : goal.invariant-loop-b
invariant-loop-b l = l.all ≡ list_all is_text (take l.b-index l.bytes)
