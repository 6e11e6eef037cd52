use Rattle.std.proofs.Common.{ap, ◌∙◌}
use Rattle.sg_base.specs.MarkSet.{MarkSet}
use Rattle.sg_cases.specs.Pairs.{CanChange}
use Rattle.sg_cases.proofs.settling.change_some.Goals as goal
use Rattle.sg_cases.proofs.settling.change_some.Goals.{then-below-eq0, else-below-eq0+in_ok-change_flow}

pub loop-change-preserved : goal.loop-change-preserved
loop-change-preserved c =
    let before = c.loop-change.invariant in
    elim c.if-below-eq0.branch [
      | then-below-eq0 w ↦
          let capacity = w.change_capacity in
          let after : CanChange capacity.new.draw.picked.room capacity.new.lazy capacity.new.whole c.loop-change.twins.items = record {
            room = ap (λ (m : MarkSet). m.room) (capacity.ensures.picked ∙ c.below.ensures.picked) ∙ before.room;
            numbers = before.numbers;
            paired = capacity.ensures.paired c.loop-change.twins.items before.paired;
          } in
          rw (w.draw-is, w.lazy-is, w.whole-is, w.twins-is) after
      | else-below-eq0+in_ok-change_flow w ↦ rw (w.draw-is, w.lazy-is, w.whole-is, w.twins-is) w.in_ok-change_flow.ensures
    ]
