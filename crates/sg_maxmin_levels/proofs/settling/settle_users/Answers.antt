use Rattle.std.proofs.Common.{◌≡◌, ◌∷◌, ◌+◌, ◌*◌, ◌≤◌, ℕ, mul-le-mul, suc, drop, sym, ap, subst, ◌∙◌, arith}
use Rattle.sg_maxmin.specs.Chained.{users_on}
use Rattle.sg_maxmin.specs.Walk.{next_on, user_of}
use Rattle.sg_maxmin_levels.specs.Kept.{IsSettlingOn}
use Rattle.sg_maxmin.proofs.Listed.{in_at}
use Rattle.sg_maxmin.proofs.Walked.{can_look, looked, walk_from, walk_on, nearer, walked}
use Rattle.sg_maxmin_levels.proofs.Joined.{row_few}
use Rattle.sg_maxmin_levels.proofs.Noted.{noted_none, noted_on}
use Rattle.sg_maxmin_levels.proofs.Steps.{drop_step, drop_end}
use Rattle.sg_maxmin_levels.proofs.settling.settle_users.Goals as goal

pub loop-at-init : goal.loop-at-init
loop-at-init g c =
    let s = c.args.system.now in
    let row = users_on s.users c.args.resource in (
      0,
      record {
        walk = walk_from next_on user_of s.uses row c.first_on-at.result c.first_on-at.ensures.leads c.first_on-at.ensures.few;
        settling = λ are. are;
        kept = c.requires.kept;
        moved = noted_none c.args.kept.now.moved c.args.kept.now.levels.items;
        within = λ p q along here are. are;
        looks = omega arith;
        few = omega arith;
      },
    )

pub look-one-requires : goal.look-one-requires
look-one-requires g c =
    let s = c.args.system.now in
    let row = users_on s.users c.args.resource in
    let inv = c.loop-at.invariant in
    can_look next_on user_of s.uses row inv.0 c.loop-at.at inv.1.walk c.in-Some.i c.in-Some.is

pub loop-at-smaller : goal.loop-at-smaller
loop-at-smaller g c =
    let s = c.args.system.now in
    let row = users_on s.users c.args.resource in
    let inv = c.loop-at.invariant in
    nearer next_on user_of s.uses row inv.0 c.loop-at.at inv.1.walk c.in-Some.i c.look-one.result c.in-Some.is c.look-one.ensures.there

pub settle_user-times-requires : goal.settle_user-times-requires
settle_user-times-requires g c =
    let s = c.args.system.now in
    let row = users_on s.users c.args.resource in
    let inv = c.loop-at.invariant in
    let r = looked next_on user_of s.uses row inv.0 c.loop-at.at inv.1.walk c.in-Some.i c.look-one.result c.in-Some.is c.look-one.ensures.there in
    record { kept = inv.1.kept; resource = c.requires.resource; user = in_at c.look-one.result.flow row inv.0 r.less (sym r.is) }

pub overflow_add-times : goal.overflow_add-times
overflow_add-times g c =
    let s = c.args.system.now in
    let row = users_on s.users c.args.resource in
    let inv = c.loop-at.invariant in
    let r = looked next_on user_of s.uses row inv.0 c.loop-at.at inv.1.walk c.in-Some.i c.look-one.result c.in-Some.is c.look-one.ensures.there in
    omega (arith, inv.1.few, r.less, c.settle_user-times.ensures.few, row_few s c.requires.kept.places.sound c.args.resource, c.requires.kept.places.sound.few)

pub loop-at-preserved : goal.loop-at-preserved
loop-at-preserved g c =
    let s = c.args.system.now in
    let n = c.args.resource in
    let row = users_on s.users n in
    let inv = c.loop-at.invariant in
    let k = inv.0 in
    let was = c.args.was in
    let before = c.loop-at.kept in
    let after = c.settle_user-times.new.kept in
    let r = looked next_on user_of s.uses row k c.loop-at.at inv.1.walk c.in-Some.i c.look-one.result c.in-Some.is c.look-one.ensures.there in
    let first : drop k row ≡ c.look-one.result.flow ∷ drop (suc k) row = drop_step row k r.less ∙ ap (λ id. id ∷ drop (suc k) row) (sym r.is) in (
      suc k,
      record {
        walk = walk_on next_on user_of s.uses row k c.loop-at.at inv.1.walk c.in-Some.i c.look-one.result c.in-Some.is c.look-one.ensures.there;
        settling = λ are. c.settle_user-times.ensures.settles (drop (suc k) row) (subst (IsSettlingOn s before n was) first (inv.1.settling are));
        kept = c.settle_user-times.ensures.moves.kept;
        moved = noted_on c.args.kept.now.moved before.moved after.moved c.args.kept.now.levels.items before.levels.items after.levels.items inv.1.moved c.settle_user-times.ensures.moves.moved;
        within = λ p q along here are. c.settle_user-times.ensures.moves.within p q along (along.users n c.look-one.result.flow here (in_at c.look-one.result.flow row k r.less (sym r.is))) (inv.1.within p q along here are);
        looks = omega (arith, inv.1.looks, c.look-one.ensures.looks, c.settle_user-times.ensures.looks, uses_most c.settle_user-times.result (c.requires.kept.longest c.look-one.result.flow), times_more c.loop-at.times c.settle_user-times.result c.args.kept.now.longest);
        few = omega (arith, inv.1.few, c.settle_user-times.ensures.few);
      },
    )
  where
    uses_most : (n : ℕ) {a b : ℕ} → a ≤ b → n * a ≤ n * b
    uses_most n le = mul-le-mul (self n) le
      where
        self : (n : ℕ) → n ≤ n
        self n = omega arith

    times_more : (n m l : ℕ) → (n + m) * l ≡ n * l + m * l
    times_more n m l = grind arith

pub returns-clause-settles : goal.returns-clause-settles
returns-clause-settles g c = λ are.
    let s = c.args.system.now in
    let row = users_on s.users c.args.resource in
    let inv = c.loop-at.invariant in
    let end = drop_end row inv.0 (walked next_on user_of s.uses row inv.0 c.loop-at.at inv.1.walk c.in_default.not-Some) in
    subst (IsSettlingOn s c.loop-at.kept c.args.resource c.args.was) end (inv.1.settling are)

pub returns-clause-moved : goal.returns-clause-moved
returns-clause-moved g c = c.loop-at.invariant.1.moved

pub returns-clause-looks : goal.returns-clause-looks
returns-clause-looks g c =
    let s = c.args.system.now in
    let row = users_on s.users c.args.resource in
    let inv = c.loop-at.invariant in
    omega (arith, inv.1.looks, walked next_on user_of s.uses row inv.0 c.loop-at.at inv.1.walk c.in_default.not-Some)

pub returns-clause-few : goal.returns-clause-few
returns-clause-few g c =
    let s = c.args.system.now in
    let row = users_on s.users c.args.resource in
    let inv = c.loop-at.invariant in
    omega (arith, inv.1.few, walked next_on user_of s.uses row inv.0 c.loop-at.at inv.1.walk c.in_default.not-Some)

pub returns-clause-within : goal.returns-clause-within
returns-clause-within g c = c.loop-at.invariant.1.within
