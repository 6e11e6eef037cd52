use Rattle.std.proofs.Common.{map, refl, subst, arith}
use Rattle.sg_activity.specs.kept.Rows.{Indexed, IsWider, things_of}
use Rattle.sg_activity.proofs.Chained.{rows_wider}
use Rattle.sg_activity.proofs.index.Index.reserve.Goals as goal

pub returns-in_err-grow_rows-clause-wider : goal.returns-in_err-grow_rows-clause-wider
returns-in_err-grow_rows-clause-wider c =
    let old = c.self.inside.chains in
    let rows = c.grow_rows.new.rows.items in
    subst (λ (i : Indexed). IsWider i (record { rows = map (things_of old.uses) rows; uses = old.uses; users = old.users; room = old.room })) c.self.view_is
    (rows_wider c.self.inside.rows.items rows old old c.grow_rows.ensures.same c.grow_rows.ensures.longer refl (omega arith))

pub returns-clause-wider : goal.returns-clause-wider
returns-clause-wider c =
    let old = c.self.inside.chains in
    let new = c.reserve.new.self in
    let rows = c.grow_rows.new.rows.items in
    subst (λ (i : Indexed). IsWider i (record { rows = map (things_of new.uses) rows; uses = new.uses; users = new.users; room = new.room })) c.self.view_is
    (rows_wider c.self.inside.rows.items rows old new c.grow_rows.ensures.same c.grow_rows.ensures.longer c.reserve.ensures.gains.kept c.reserve.ensures.gains.grows)
