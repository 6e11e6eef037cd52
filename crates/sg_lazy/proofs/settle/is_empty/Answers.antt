use Rattle.std.proofs.Common.{eqb-true, length, sym, ◌∙◌}
use Rattle.sg_lazy.proofs.Idle.{none_in}
use Rattle.sg_lazy.proofs.settle.is_empty.Goals as goal

pub returns : goal.returns
returns c = λ e. sym c.members.ensures.members ∙ none_in c.members.result.now (eqb-true (length c.members.result.now) 0 (sym c.is_empty.ensures ∙ e))
