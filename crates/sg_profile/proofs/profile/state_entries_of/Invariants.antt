use Rattle.std.proofs.Common.{◌≡◌, map, take}
use Rattle.sg_profile.specs.Profiles.{entry_by}
use Rattle.sg_profile.specs.declared.entry.Entry.TheVariants.{HostOn, LinkOn}
use Rattle.sg_profile.proofs.profile.state_entries_of.Given as goal

abbrev pub invariant-loop-on : goal.invariant-loop-on
invariant-loop-on l = l.entries.items ≡ map (entry_by HostOn LinkOn l.of) (take l.on-index l.states)
