use Rattle.std.proofs.Common.{◌≡◌, ℕ, subst, sym, ap, ◌∙◌}
use Rattle.sg_maxmin.specs.Chained.{times, users_on}
use Rattle.sg_activity.specs.kept.Rows.{Indexed, row_at}
use Rattle.sg_activity.proofs.Chained.{row_mapped}
use Rattle.sg_activity.proofs.index.Index.is_both_ways.Goals as goal

pub returns : goal.returns
returns c =
    subst (λ (i : Indexed). (key thing : ℕ) → times key (users_on i.users thing) ≡ times thing (row_at i.rows key)) c.self.view_is
    (λ key thing. c.self.invariant.both key thing ∙ ap (times thing) (sym (row_mapped c.self.inside.chains.uses c.self.inside.rows.items key)))
