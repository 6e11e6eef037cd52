use Rattle.std.proofs.Common.{sym, ap, subst, arith}
use Rattle.sg_base.specs.MarkSet.{MarkSet}
use Rattle.sg_maxmin_levels.specs.Kept.{IsBetweenBut}
use Rattle.sg_maxmin_levels.proofs.Renewing.{settling_to, told_between}
use Rattle.sg_maxmin_levels.proofs.levels.Levels.settle.Goals as goal

pub returns-clause-between : goal.returns-clause-between
returns-clause-between g c =
    let s = c.args.system.now in
    let all = c.look_on-settled.new.self in
    subst (IsBetweenBut s _) (sym (ap (λ (m : MarkSet). m.members) c.clear.ensures))
    (told_between s all c.clear.new.self _ (ap (λ (m : MarkSet). m.room) c.clear.ensures) (settling_to s all c.look_on-settled.ensures.settling))

pub returns-clause-looks : goal.returns-clause-looks
returns-clause-looks g c = λ p q along are. omega (arith, c.renew_all.ensures.looks, c.look_on-settled.ensures.looks p q along (c.renew_all.ensures.within p q along are))
