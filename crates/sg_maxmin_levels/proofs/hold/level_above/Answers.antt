use Rattle.std.proofs.Common.{sym, ◌∙◌}
use Rattle.sg_maxmin_levels.proofs.RowRise.{level_from}
use Rattle.sg_maxmin_levels.proofs.hold.level_above.Goals as goal

pub returns-clause-level : goal.returns-clause-level
returns-clause-level g c = record {
  none = λ e. sym c.in_ok-rest.ensures.rest.waiting_is ∙ c.level_of_rest.ensures.none e;
  some = level_from _ _ _ c.in_ok-rest.rest.left c.in_ok-rest.rest.waiting _ c.level_of_rest.result c.in_ok-rest.ensures.rest.left_is c.in_ok-rest.ensures.rest.waiting_is c.level_of_rest.ensures.some;
}
