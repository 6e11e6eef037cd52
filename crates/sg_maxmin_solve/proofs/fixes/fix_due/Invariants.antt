use Rattle.std.proofs.Common.{◌≡◌, ◌⊎◌, ℕ, None, Some, IsSome, slice_index}
use Rattle.sg_maxmin.specs.Chained.{users_on}
use Rattle.sg_heap.specs.Agenda.{key_at, key_count}
use Rattle.sg_maxmin_solve.specs.Filling.{AreFixed, KeepsHolds, StepsPartly, fixed_at}
use Rattle.sg_maxmin_solve.specs.Holds.{CountsOnce, MayHold}
use Rattle.sg_maxmin_solve.proofs.fixes.fix_due.Given as goal

abbrev pub invariant-loop-c : goal.invariant-loop-c
invariant-loop-c g l = record {
  partly : StepsPartly l.system l.low.level l.fn.filling l.filling;
  keys : (c : ℕ) → (key_at l.filling.agenda c ≡ key_at l.fn.filling.agenda c) ⊎ ((key_at l.filling.agenda c ≡ None) × (slice_index l.fn.filling.levels.items c ≡ l.low.level → AreFixed (users_on l.system.users c) l.filling × (fixed_at l.filling.holds.items c ≡ Some l.low.level)));
  others : KeepsHolds l.reached l.fn.filling l.filling;
  may : (c : ℕ) → MayHold l.low.level (slice_index l.fn.filling.levels.items c) (fixed_at l.fn.filling.holds.items c) (fixed_at l.filling.holds.items c);
  held : (c : ℕ) → IsSome (key_at l.filling.agenda c) → fixed_at l.filling.holds.items c ≡ fixed_at l.fn.filling.holds.items c;
  count : CountsOnce l.system l.touched l.reached l.fn.filling l.filling l.fn.steps l.steps;
}

abbrev pub decreases-loop-c : goal.decreases-loop-c
decreases-loop-c g l = key_count l.filling.agenda
