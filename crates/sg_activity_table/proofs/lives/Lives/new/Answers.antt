use Rattle.std.proofs.Common.{List, Option, None, is_some, count_by, get_or, sym, ap, ◌∙◌, arith}
use Rattle.sg_activity_table.specs.declared.cells.Cell.{Cell}
use Rattle.sg_activity_table.specs.Cells.{live_at}
use Rattle.sg_activity_table.specs.Pool.{goes_on}
use Rattle.sg_activity_table.specs.Slots.{passes}
use Rattle.sg_activity_table.proofs.Keeping.{none_in}
use Rattle.sg_activity_table.proofs.Listed.{past_listed}
use Rattle.sg_activity_table.proofs.lives.Lives.new.Goals as goal

pub invariant_of-result : goal.invariant_of-result
invariant_of-result c = record {
  pool = record {
    above = λ key h. ap (λ (l : List (Option Cell)). get_or l key None) c.new.ensures.empty;
    fits = omega arith;
    free = omega (arith, ap (count_by is_some) c.new.ensures.empty);
  };
  keyed = record {
    each = λ key live e. absurd (cc (sym (past_listed 0 (live_at c.new.result) key None (omega arith)) ∙ e));
    back = λ serial key e. absurd (cc (sym (c.new-2.ensures serial) ∙ e));
  };
  goes = ap (count_by (passes goes_on)) (sym (none_in c.new.result));
  spare_room = omega arith;
}

pub returns-clause-slots : goal.returns-clause-slots
returns-clause-slots c = none_in c.new.result
