use Rattle.std.proofs.Common.{◌≡◌, ◌-◌, ◌≤◌, length}
use Rattle.sg_edge.specs.declared.files.Stage.TheVariants.{Begun}
use Rattle.sg_edge.specs.Files.{before, Only}
use Rattle.sg_edge.proofs.loading.read_whole.Given as goal

abbrev pub invariant-loop-part : goal.invariant-loop-part
invariant-loop-part g l = record {
  stage : (g.F.Files.shows l.files l.part).stage ≡ Begun;
  left : (g.F.Files.shows l.initial.files l.part).left ≡ before l.bytes.items (g.F.Files.shows l.files l.part).left;
  name : (g.F.Files.shows l.files l.part).name ≡ (g.F.Files.shows l.initial.files l.part).name;
  faults : (g.F.Files.shows l.files l.part).faults ≡ (g.F.Files.shows l.initial.files l.part).faults;
  most : length l.bytes.items ≤ l.limit;
  others : Only l.part (g.F.Files.shows l.initial.files) (g.F.Files.shows l.files);
}

abbrev pub decreases-loop-part : goal.decreases-loop-part
decreases-loop-part g l = l.limit - length l.bytes.items
