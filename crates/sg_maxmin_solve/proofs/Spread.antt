-- Spreading continues from what was spread.
use Rattle.std.proofs.Common.{◌∙◌, arith}
use Rattle.sg_maxmin.specs.Sharing.{Sharing}
use Rattle.sg_maxmin_solve.specs.declared.component.Component.{Component}
use Rattle.sg_maxmin_solve.specs.Component.{Spreads}
use Rattle.sg_maxmin_solve.proofs.Growing.{grows_on}

pub spreads_on : (s : Sharing) (a b c : Component) → Spreads s a b → Spreads s b c → Spreads s a c
spreads_on s a b c one two = record {
  touched = grows_on a.touched.members b.touched.members c.touched.members one.touched two.touched;
  reached = grows_on a.reached.members b.reached.members c.reached.members one.reached two.reached;
  covers = two.covers;
  touched_room = two.touched_room ∙ one.touched_room;
  reached_room = two.reached_room ∙ one.reached_room;
  few = omega (arith, one.few, two.few);
}
