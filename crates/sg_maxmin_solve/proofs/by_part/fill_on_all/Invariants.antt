use Rattle.std.proofs.Common.{ℕ, Bool, ◌<◌, slice_index, IsTrue}
use Rattle.sg_base.specs.MarkSet.{is_in}
use Rattle.sg_maxmin_solve.specs.Component.{AllPass, PassAlong, StaysWithin}
use Rattle.sg_maxmin_solve.specs.Parts.{FillsOn}
use Rattle.sg_maxmin_solve.proofs.by_part.fill_on_all.Given as goal

abbrev pub invariant-loop-c : goal.invariant-loop-c
invariant-loop-c g l = record {
  on : FillsOn l.system l.fn.component l.component l.filling l.fn.steps l.steps;
  done : (i : ℕ) → i < l.c-index → IsTrue (is_in (slice_index l.resources i) l.component.reached.members);
  least : (p q : ℕ → Bool) → PassAlong l.system p q → AllPass q l.resources → StaysWithin p q l.fn.component l.component;
}
