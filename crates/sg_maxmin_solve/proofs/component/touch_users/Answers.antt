use Rattle.std.proofs.Common.{◌≡◌, suc, true, get_or, below_more, sym, subst, arith}
use Rattle.sg_base.specs.MarkSet.{is_in}
use Rattle.sg_maxmin.specs.Chained.{users_on}
use Rattle.sg_maxmin.specs.Walk.{next_on, user_of}
use Rattle.sg_maxmin_solve.proofs.Growing.{stays}
use Rattle.sg_maxmin.proofs.Walked.{can_look, looked, walk_on, nearer, walked}
use Rattle.sg_maxmin_solve.proofs.Spread.{spreads_on}
use Rattle.sg_maxmin.proofs.Users.{on_below}
use Rattle.sg_maxmin_solve.proofs.component.touch_users.Goals as goal

pub look-one-requires : goal.look-one-requires
look-one-requires g c =
    let s = c.args.system.now in
    let inv = c.loop-at.invariant in
    can_look next_on user_of s.uses (users_on s.users c.args.resource) inv.0 c.loop-at.at inv.1.walk c.in-Some.i c.in-Some.is

pub touch-requires-clause-flow : goal.touch-requires-clause-flow
touch-requires-clause-flow g c =
    let s = c.args.system.now in
    let inv = c.loop-at.invariant in
    let r = looked next_on user_of s.uses (users_on s.users c.args.resource) inv.0 c.loop-at.at inv.1.walk c.in-Some.i c.look-one.result c.in-Some.is c.look-one.ensures.there in
    omega (arith, on_below s c.requires.open.sound c.args.resource inv.0 r.less, r.is, c.requires.open.touched_room, inv.1.spreads.touched_room)

pub loop-at-smaller : goal.loop-at-smaller
loop-at-smaller g c =
    let s = c.args.system.now in
    let inv = c.loop-at.invariant in
    nearer next_on user_of s.uses (users_on s.users c.args.resource) inv.0 c.loop-at.at inv.1.walk c.in-Some.i c.look-one.result c.in-Some.is c.look-one.ensures.there

pub loop-at-preserved : goal.loop-at-preserved
loop-at-preserved g c =
    let s = c.args.system.now in
    let row = users_on s.users c.args.resource in
    let inv = c.loop-at.invariant in
    let k = inv.0 in
    let r = looked next_on user_of s.uses row k c.loop-at.at inv.1.walk c.in-Some.i c.look-one.result c.in-Some.is c.look-one.ensures.there in
    let out = c.touch.ensures in
    let old = c.loop-at.component.touched.members in
    let new = c.touch.new.component.touched.members in (
      suc k,
      record {
        walk = walk_on next_on user_of s.uses row k c.loop-at.at inv.1.walk c.in-Some.i c.look-one.result c.in-Some.is c.look-one.ensures.there;
        spreads = spreads_on s c.args.component.now c.loop-at.component c.touch.new.component inv.1.spreads out.from.spreads;
        done = λ i h. below_more _ _ (λ i h. stays (get_or row i 0) old new out.from.spreads.touched (inv.1.done i h)) (subst (λ n. is_in n new ≡ true) r.is out.from.there) i (omega (arith, h));
        least = λ p q closed passes t u. let b = inv.1.least p q closed passes t u in out.from.least p q closed (subst (λ n. p n ≡ true) (sym r.is) (passes k r.less)) b.0 b.1;
        looks = omega (arith, inv.1.looks, out.looks, c.look-one.ensures.looks);
      },
    )

pub returns-clause-from : goal.returns-clause-from
returns-clause-from g c =
    let s = c.args.system.now in
    let inv = c.loop-at.invariant in
    let end = walked next_on user_of s.uses (users_on s.users c.args.resource) inv.0 c.loop-at.at inv.1.walk c.in_default.not-Some in
    record { spreads = inv.1.spreads; there = λ i h. inv.1.done i (omega (arith, h, end)); least = inv.1.least }

pub returns-clause-looks : goal.returns-clause-looks
returns-clause-looks g c =
    let s = c.args.system.now in
    let inv = c.loop-at.invariant in
    omega (arith, inv.1.looks, walked next_on user_of s.uses (users_on s.users c.args.resource) inv.0 c.loop-at.at inv.1.walk c.in_default.not-Some)
