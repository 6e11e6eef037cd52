use Rattle.std.proofs.Common.{◌≡◌, ◌<◌, length, get_or, below_more, refl, ap, subst, sym, arith}
use Rattle.sg_maxmin.specs.Chained.{users_on}
use Rattle.sg_maxmin_solve.specs.Component.{RowPasses, AreIn}
use Rattle.sg_maxmin_solve.proofs.Growing.{all_stay, lengths_more}
use Rattle.sg_maxmin_solve.proofs.Spread.{spreads_on}
use Rattle.sg_maxmin.proofs.Listed.{at_in, in_at}
use Rattle.sg_maxmin_solve.proofs.component.reach.Goals as goal

pub loop-k-preserved : goal.loop-k-preserved
loop-k-preserved g c =
    let s = c.args.system.now in
    let inv = c.loop-k.invariant in
    let out = c.touch_users.ensures in
    let k = c.loop-k.k in
    let old = c.loop-k.component.reached.members in
    let new = c.touch_users.new.component.reached.members in
    let were = c.loop-k.component.touched.members in
    let are = c.touch_users.new.component.touched.members in
    let less : k < length old = omega (arith, c.loop-k-test.true, ap length c.members.ensures.members) in
    let number : get_or c.members-in-loop-k.result.now k 0 ≡ get_or old k 0 = ap (λ xs. get_or xs k 0) c.members-in-loop-k.ensures.members in
    let row = users_on s.users (get_or old k 0) in
    let there : AreIn row are = subst (λ n. AreIn (users_on s.users n) are) number out.from.there in
    record {
      spreads = spreads_on s c.args.component.now c.loop-k.component c.touch_users.new.component inv.spreads out.from.spreads;
      visited = below_more _ _
          (λ i h. subst (λ n. AreIn (users_on s.users n) are) (sym (out.from.spreads.reached.same i (omega (arith, h, less))))
          (all_stay (users_on s.users (get_or old i 0)) were are out.from.spreads.touched (inv.visited i h)))
          (subst (λ n. AreIn (users_on s.users n) are) (sym (out.from.spreads.reached.same k less)) there);
      within = omega (arith, less, out.from.spreads.reached.longer);
      least = λ p q along t r.
          let b = inv.least p q along t r in
          out.from.least p q along.uses (subst (λ n. RowPasses p (users_on s.users n)) (sym number) (along.users (get_or old k 0) (b.1 (get_or old k 0) (in_at (get_or old k 0) old k less refl)))) b.0 b.1;
      looks = omega (arith, inv.looks, out.looks, lengths_more (users_on s.users) old new k less out.from.spreads.reached, ap (λ n. length (users_on s.users n)) number);
    }

pub returns-clause-closed : goal.returns-clause-closed
returns-clause-closed g c =
    let s = c.args.system.now in
    record {
      covers = c.loop-k.invariant.spreads.covers;
      covered = λ resource h.
          let at = at_in resource c.loop-k.component.reached.members h in
          subst (λ n. AreIn (users_on s.users n) c.loop-k.component.touched.members) at.2
          (c.loop-k.invariant.visited at.0 (omega (arith, at.1, c.loop-k-test.false, ap length c.members.ensures.members)));
    }
