use Rattle.std.proofs.Common.{◌≡◌, ℕ, ◌<◌, None, length, get_or}
use Rattle.sg_heap.specs.Agenda.{key_at}
use Rattle.sg_profile.specs.Profiles.{dates_of}
use Rattle.sg_profile.specs.kept.Slots.{key_by}
use Rattle.sg_profile.proofs.slots.enter_all.Given as goal

abbrev pub invariant-loop-row : goal.invariant-loop-row
invariant-loop-row l = record {
  slots : length l.agenda ≡ length l.profiles;
  keys : (row : ℕ) → row < l.row → key_at l.agenda row ≡ key_by row (get_or (dates_of l.profiles l.turns) row None);
}
