use Rattle.std.proofs.Common.{◌≡◌, ℕ, Bool, ◌+◌, take}
use Rattle.sg_maxmin.specs.Sharing.{uses_at}
use Rattle.sg_maxmin_levels.specs.Kept.{IsBetween, IsWithin, NotesChanged}
use Rattle.sg_maxmin_solve.specs.Component.{lengths}
use Rattle.sg_lazy.specs.kept.Held.{IsWithout}
use Rattle.sg_lazy.specs.kept.Leveled.{RowsPass}
use Rattle.sg_lazy.proofs.settle.end_all.Given as goal

abbrev pub invariant-loop-flow : goal.invariant-loop-flow
invariant-loop-flow g l = record {
  without : IsWithout l.fn.system l.system (take l.flow-index l.ended);
  between : IsBetween l.system l.levels;
  changed : NotesChanged l.fn.system l.system l.fn.levels l.levels;
  within : (p q : ℕ → Bool) → RowsPass q (uses_at l.fn.system.slots) l.ended → IsWithin p q l.fn.levels → IsWithin p q l.levels;
  looks : l.steps ≡ l.fn.steps + lengths (uses_at l.fn.system.slots) (take l.flow-index l.ended);
}
