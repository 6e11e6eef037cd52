use Rattle.std.proofs.Common.{ℕ, ◌-◌, suc, cond, is_none, Option, IsSome, slice_index, refl, sym, ap, ap₂, subst, ◌∙◌, arith}
use Rattle.sg_maxmin.specs.Chained.{users_on}
use Rattle.sg_maxmin.specs.Walk.{next_on, user_of}
use Rattle.sg_maxmin.specs.Fixing.{share_of_fixed}
use Rattle.sg_maxmin.specs.Numbered.{below_at, flow_in, level_at, row_taken, row_waiting, weight_at, when_below}
use Rattle.sg_maxmin.proofs.Listed.{in_at, take_all}
use Rattle.sg_maxmin.proofs.Walked.{can_look, goes, looked, walk_from, walk_on, nearer, walked}
use Rattle.sg_maxmin.proofs.Users.{on_held, flow_below}
use Rattle.sg_maxmin.proofs.OnRow.{weights_fit}
use Rattle.sg_maxmin_levels.proofs.Passes.{wait_all, wait_next, wait_none}
use Rattle.sg_maxmin_levels.proofs.RowRise.{taken_next, waiting_next, room_next, taken_none, waiting_none}
use Rattle.sg_maxmin_levels.proofs.hold.rest_of.Goals as goal

pub loop-at-init : goal.loop-at-init
loop-at-init g c =
    let s = c.args.system.now in
    let row = users_on s.users c.args.resource in
    let fixed = below_at c.args.levels.now c.args.low in (
      0,
      record {
        walk = walk_from next_on user_of s.uses row c.first_on-at.result c.first_on-at.ensures.leads c.first_on-at.ensures.few;
        left = omega (arith, c.capacity.ensures, taken_none s.slots fixed row);
        waiting = sym (waiting_none s.slots fixed row);
        least = wait_none c.args.levels.now c.args.low row _;
        users = refl;
        few = omega arith;
        looks = omega arith;
      },
    )

pub look-one-requires : goal.look-one-requires
look-one-requires g c =
    let s = c.args.system.now in
    let inv = c.loop-at.invariant in
    can_look next_on user_of s.uses (users_on s.users c.args.resource) inv.0 c.loop-at.at inv.1.walk c.in-Some.i c.in-Some.is

pub loop-at-smaller : goal.loop-at-smaller
loop-at-smaller g c =
    let s = c.args.system.now in
    let inv = c.loop-at.invariant in
    nearer next_on user_of s.uses (users_on s.users c.args.resource) inv.0 c.loop-at.at inv.1.walk c.in-Some.i c.look-one.result c.in-Some.is c.look-one.ensures.there

pub under-requires : goal.under-requires
under-requires g c =
    let s = c.args.system.now in
    let row = users_on s.users c.args.resource in
    let inv = c.loop-at.invariant in
    let r = looked next_on user_of s.uses row inv.0 c.loop-at.at inv.1.walk c.in-Some.i c.look-one.result c.in-Some.is c.look-one.ensures.there in
    let f = on_held s c.requires.sound c.args.resource c.look-one.result.flow (in_at c.look-one.result.flow row inv.0 r.less (sym r.is)) in
    omega (arith, flow_below s.slots c.look-one.result.flow f.0 f.1, c.requires.levels_len)

pub with_flow-rest-requires : goal.with_flow-rest-requires
with_flow-rest-requires g c =
    let s = c.args.system.now in
    let row = users_on s.users c.args.resource in
    let inv = c.loop-at.invariant in
    let r = looked next_on user_of s.uses row inv.0 c.loop-at.at inv.1.walk c.in-Some.i c.look-one.result c.in-Some.is c.look-one.ensures.there in
    let f = on_held s c.requires.sound c.args.resource c.look-one.result.flow (in_at c.look-one.result.flow row inv.0 r.less (sym r.is)) in
    record {
      sound = c.requires.sound;
      held = subst IsSome (sym f.1) refl;
      fits = omega (arith, inv.1.waiting, room_next s.slots (below_at c.args.levels.now c.args.low) row inv.0 r.less, ap (weight_at s.slots) r.is, weights_fit s c.requires.sound c.args.resource);
      few = omega (arith, inv.1.few, c.if-rest-looks.false, c.ranges.looks.fits);
    }

pub loop-at-preserved : goal.loop-at-preserved
loop-at-preserved g c =
    let s = c.args.system.now in
    let row = users_on s.users c.args.resource in
    let inv = c.loop-at.invariant in
    let k = inv.0 in
    let levels = c.args.levels.now in
    let low = c.args.low in
    let fixed = below_at levels low in
    let r = looked next_on user_of s.uses row k c.loop-at.at inv.1.walk c.in-Some.i c.look-one.result c.in-Some.is c.look-one.ensures.there in
    let here = ap {B = Option ℕ} (λ o. when_below o low) (c.under.ensures ∙ ap {B = Option ℕ} (level_at levels) r.is) in
    let share = ap₂ (λ o id. share_of_fixed (flow_in s.slots id) o) here r.is in
    let weight = ap₂ (λ o id. cond (is_none o) (weight_at s.slots id) 0) here r.is in (
      suc k,
      record {
        walk = walk_on next_on user_of s.uses row k c.loop-at.at inv.1.walk c.in-Some.i c.look-one.result c.in-Some.is c.look-one.ensures.there;
        left = omega (arith, c.with_flow-rest.ensures.left, inv.1.left, taken_next s.slots fixed row k r.less, share);
        waiting = omega (arith, c.with_flow-rest.ensures.waiting, inv.1.waiting, waiting_next s.slots fixed row k r.less, weight);
        least = wait_next levels low row k c.loop-at.rest.least c.with_flow-rest.result.least c.look-one.result.flow c.under.result r.is c.under.ensures c.with_flow-rest.ensures.less c.with_flow-rest.ensures.least inv.1.least;
        users = omega (arith, c.with_flow-rest.ensures.users, inv.1.users);
        few = omega (arith, c.with_flow-rest.ensures.users, inv.1.few, c.if-rest-looks.false);
        looks = omega (arith, inv.1.looks, c.look-one.ensures.looks);
      },
    )

pub returns-clause-rest : goal.returns-clause-rest
returns-clause-rest g c =
    let s = c.args.system.now in
    let row = users_on s.users c.args.resource in
    let inv = c.loop-at.invariant in
    let all = take_all row inv.0 (walked next_on user_of s.uses row inv.0 c.loop-at.at inv.1.walk c.in_default.not-Some) in
    record {
      left_is = inv.1.left ∙ ap (λ xs. slice_index s.capacities c.args.resource - row_taken s.slots (below_at c.args.levels.now c.args.low) xs) all;
      waiting_is = inv.1.waiting ∙ ap (λ xs. row_waiting s.slots (below_at c.args.levels.now c.args.low) xs) all;
    }

pub returns-clause-least : goal.returns-clause-least
returns-clause-least g c =
    let s = c.args.system.now in
    let row = users_on s.users c.args.resource in
    let inv = c.loop-at.invariant in
    wait_all c.args.levels.now c.args.low row inv.0 c.loop-at.rest.least (walked next_on user_of s.uses row inv.0 c.loop-at.at inv.1.walk c.in_default.not-Some) inv.1.least

pub returns-clause-users : goal.returns-clause-users
returns-clause-users g c =
    let s = c.args.system.now in
    let row = users_on s.users c.args.resource in
    let inv = c.loop-at.invariant in
    record { all = inv.1.users ∙ walked next_on user_of s.uses row inv.0 c.loop-at.at inv.1.walk c.in_default.not-Some; few = inv.1.few }

pub returns-then-rest-looks-clause-enough : goal.returns-then-rest-looks-clause-enough
returns-then-rest-looks-clause-enough g c = λ none.
    let s = c.args.system.now in
    let row = users_on s.users c.args.resource in
    let inv = c.loop-at.invariant in
    let r = goes next_on user_of s.uses row inv.0 c.in-Some.i c.loop-at.at c.in-Some.is inv.1.walk.leads in
    omega (arith, r.1.less, inv.1.users, c.if-rest-looks.true)
