use Rattle.std.proofs.Common.{◌≡◌, eqb-true, false, true≢false, is_some, Option, None, Some, refl, sym, ap, ◌∙◌}
use Rattle.sg_maxmin.specs.Chained.{users_on}
use Rattle.sg_maxmin.specs.Walk.{next_on, user_of}
use Rattle.sg_maxmin.proofs.Walked.{walk_from}
use Rattle.sg_maxmin_solve.proofs.OneFlow.{only_user}
use Rattle.sg_maxmin_solve.proofs.alone.is_only.Goals as goal

not_some : {X : Type 0} (o : Option X) → is_some o ≡ false → o ≡ None
not_some None e = refl
not_some (Some x) e = absurd (true≢false e)

pub returns-in-Some-clause-only : goal.returns-in-Some-clause-only
returns-in-Some-clause-only c = λ e.
    let s = c.args.system.now in
    let row = users_on s.users c.args.one.resource in
    let walk = walk_from next_on user_of s.uses row c.first_on.result c.first_on.ensures.leads c.first_on.ensures.few in
    only_user s.uses row c.first_on.result c.args.i c.args.one walk (c.in-Some.is ∙ ap Some (eqb-true c.in-Some.first c.args.i e)) c.requires.there (not_some c.args.one.next_on (sym c.is_some.ensures ∙ c.if-is_some.false))
