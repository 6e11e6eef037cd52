use Rattle.std.proofs.Common.{◌≡◌, inl, inr, true, false, subst}
use Rattle.sg_base.specs.MarkSet.{MarkSet, is_in}
use Rattle.sg_maxmin.proofs.Listed.{off_mark, off_one, one_off}
use Rattle.sg_maxmin_levels.proofs.Within.{marked_or}
use Rattle.sg_maxmin_levels.proofs.settling.visit.Goals as goal

pub returns-clause-activates : goal.returns-clause-activates
returns-clause-activates c = record {
  all = λ r off.
      let n = c.args.resource in
      let is = off_mark r n c.args.kept.now.active.members (subst (λ (m : MarkSet). is_in r m.members ≡ false) c.insert.ensures off) in
      (is.1, one_off r n is.0);
  only = λ r on off. elim (marked_or r c.args.resource c.args.kept.now.active.members (subst (λ (m : MarkSet). is_in r m.members ≡ true) c.insert.ensures on)) [
    | inl e ↦ absurd (off_one r c.args.resource off e)
    | inr was ↦ was
  ];
}
