use Rattle.std.proofs.Common.{◌≡◌, ℕ, Bool, true, false, ◌<◌, slice_index, IsTrue}
use Rattle.sg_base.specs.MarkSet.{is_in}
use Rattle.sg_maxmin_solve.specs.Component.{PassAlong, StaysWithin}
use Rattle.sg_maxmin_solve.specs.Parts.{FillsOn}
use Rattle.sg_maxmin_solve.proofs.by_part.fill_marked.Given as goal

abbrev pub invariant-loop-flow : goal.invariant-loop-flow
invariant-loop-flow g l = record {
  on : FillsOn l.system l.fn.component l.component l.filling l.fn.steps l.steps;
  done : (i : ℕ) → i < l.flow-index → is_in (slice_index l.marked i) l.ended.members ≡ false → IsTrue (is_in (slice_index l.marked i) l.component.touched.members);
  least : (p q : ℕ → Bool) → PassAlong l.system p q → ((id : ℕ) → is_in id l.marked ≡ true → is_in id l.ended.members ≡ false → IsTrue (p id)) → StaysWithin p q l.fn.component l.component;
}
