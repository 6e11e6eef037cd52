use Rattle.std.proofs.Common.{◌≡◌, ◌≤◌, length, take}
use Rattle.sg_paths.proofs.asked.copy_of.Given as goal

abbrev pub invariant-loop-link : goal.invariant-loop-link
invariant-loop-link l = (l.copy.items ≡ take l.link-index l.links) × (length l.copy.items ≤ l.link-index)
