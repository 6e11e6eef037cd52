use Rattle.std.proofs.Common.{◌≡◌, ◌++◌, map, take}
use Rattle.sg_profile.specs.Profiles.{profile_of, state_profile_of}
use Rattle.sg_profile.proofs.profile.profiles_of.Given as goal

abbrev pub invariant-loop-row : goal.invariant-loop-row
invariant-loop-row l = l.profiles.items ≡ map profile_of (take l.row-index l.rows)

abbrev pub invariant-loop-row-2 : goal.invariant-loop-row-2
invariant-loop-row-2 l = l.profiles.items ≡ map profile_of l.rows ++ map state_profile_of (take l.row-index l.states)
