use Rattle.std.proofs.Common.{◌≡◌, map, take}
use Rattle.sg_profile.specs.Profiles.{entry_by}
use Rattle.sg_profile.specs.declared.entry.Entry.TheVariants.{Bandwidth, Speed}
use Rattle.sg_profile.proofs.profile.entries_of.Given as goal

abbrev pub invariant-loop-value : goal.invariant-loop-value
invariant-loop-value l = l.entries.items ≡ map (entry_by Speed Bandwidth l.of) (take l.value-index l.values)
