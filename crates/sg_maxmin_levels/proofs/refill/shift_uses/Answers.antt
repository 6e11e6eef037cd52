use Rattle.std.proofs.Common.{◌≡◌, ◌<◌, ◌*◌, suc, length, length-set, get_or, take, refl, ap, subst, ◌∙◌, arith, ◌+◌, ◌-◌}
use Rattle.std.proofs.lemmas.List.Elements.{All-get_or}
use Rattle.sg_maxmin.specs.Chained.{times}
use Rattle.sg_maxmin.specs.Sharing.{uses_at}
use Rattle.sg_maxmin.specs.Walk.{next_of_flow, resource_of}
use Rattle.sg_maxmin_levels.specs.Kept.{Shifts}
use Rattle.sg_maxmin.proofs.Listed.{take_all}
use Rattle.sg_maxmin.proofs.Users.{rows_exist}
use Rattle.sg_maxmin.proofs.Walked.{can_look, looked, walk_from, walk_on, nearer, walked}
use Rattle.sg_maxmin_levels.proofs.Shifting.{shift_fits, shift_more, shift_some}
use Rattle.sg_maxmin_levels.proofs.refill.shift_uses.Goals as goal

pub loop-at-init : goal.loop-at-init
loop-at-init g c =
    let s = c.args.system.now in
    let row = uses_at s.slots c.args.flow in (
      0,
      record {
        walk = walk_from next_of_flow resource_of s.uses row c.first_of-at.result c.first_of-at.ensures.leads c.first_of-at.ensures.few;
        places = refl;
        shifts = λ x. let none : times x (take 0 row) ≡ 0 = refl in omega (arith, ap (λ n. n * c.args.before) none, ap (λ n. n * c.args.after) none);
        looks = omega arith;
      },
    )

pub look-one-requires : goal.look-one-requires
look-one-requires g c =
    let s = c.args.system.now in
    let inv = c.loop-at.invariant in
    can_look next_of_flow resource_of s.uses (uses_at s.slots c.args.flow) inv.0 c.loop-at.at inv.1.walk c.in-Some.i c.in-Some.is

pub loop-at-smaller : goal.loop-at-smaller
loop-at-smaller g c =
    let s = c.args.system.now in
    let inv = c.loop-at.invariant in
    nearer next_of_flow resource_of s.uses (uses_at s.slots c.args.flow) inv.0 c.loop-at.at inv.1.walk c.in-Some.i c.look-one.result c.in-Some.is c.look-one.ensures.there

pub shift-requires-clause-demand : goal.shift-requires-clause-demand
shift-requires-clause-demand g c =
    let s = c.args.system.now in
    let row = uses_at s.slots c.args.flow in
    let inv = c.loop-at.invariant in
    let r = looked next_of_flow resource_of s.uses row inv.0 c.loop-at.at inv.1.walk c.in-Some.i c.look-one.result c.in-Some.is c.look-one.ensures.there in
    let below : get_or row inv.0 0 < length s.capacities = All-get_or (λ n. n < length s.capacities) row inv.0 0 r.less (rows_exist s c.requires.sound c.args.flow) in
    omega (arith, below, r.is, c.requires.places, inv.1.places)

pub shift-requires-clause-some : goal.shift-requires-clause-some
shift-requires-clause-some g c =
    let s = c.args.system.now in
    let row = uses_at s.slots c.args.flow in
    let inv = c.loop-at.invariant in
    let r = looked next_of_flow resource_of s.uses row inv.0 c.loop-at.at inv.1.walk c.in-Some.i c.look-one.result c.in-Some.is c.look-one.ensures.there in
    shift_some c.args.before c.args.after c.args.demands.now.items c.loop-at.demands.items row inv.0 c.look-one.result.resource r.less r.is inv.1.shifts c.requires.shift.some

pub shift-requires-clause-fits : goal.shift-requires-clause-fits
shift-requires-clause-fits g c =
    let s = c.args.system.now in
    let row = uses_at s.slots c.args.flow in
    let inv = c.loop-at.invariant in
    let r = looked next_of_flow resource_of s.uses row inv.0 c.loop-at.at inv.1.walk c.in-Some.i c.look-one.result c.in-Some.is c.look-one.ensures.there in
    shift_fits c.args.before c.args.after c.args.demands.now.items c.loop-at.demands.items row inv.0 c.look-one.result.resource r.less r.is inv.1.shifts c.requires.shift.fits

pub loop-at-preserved : goal.loop-at-preserved
loop-at-preserved g c =
    let s = c.args.system.now in
    let row = uses_at s.slots c.args.flow in
    let inv = c.loop-at.invariant in
    let k = inv.0 in
    let before = c.args.before in
    let after = c.args.after in
    let one = c.look-one.result.resource in
    let first = c.args.demands.now.items in
    let old = c.loop-at.demands.items in
    let r = looked next_of_flow resource_of s.uses row k c.loop-at.at inv.1.walk c.in-Some.i c.look-one.result c.in-Some.is c.look-one.ensures.there in
    let below : get_or row k 0 < length s.capacities = All-get_or (λ n. n < length s.capacities) row k 0 r.less (rows_exist s c.requires.sound c.args.flow) in
    let here : one < length old = omega (arith, below, r.is, c.requires.places, inv.1.places) in
    let some = shift_some before after first old row k one r.less r.is inv.1.shifts c.requires.shift.some in (
      suc k,
      record {
        walk = walk_on next_of_flow resource_of s.uses row k c.loop-at.at inv.1.walk c.in-Some.i c.look-one.result c.in-Some.is c.look-one.ensures.there;
        places = ap length c.shift.ensures ∙ length-set old one (get_or old one 0 - before + after) ∙ inv.1.places;
        shifts = λ x. ap (λ xs. get_or xs x 0 + times x (take (suc k) row) * before) c.shift.ensures ∙ shift_more before after first old row k one r.less r.is inv.1.shifts some here x;
        looks = omega (arith, inv.1.looks, c.look-one.ensures.looks);
      },
    )

pub returns-clause-places : goal.returns-clause-places
returns-clause-places g c = c.loop-at.invariant.1.places

pub returns-clause-shifts : goal.returns-clause-shifts
returns-clause-shifts g c =
    let s = c.args.system.now in
    let row = uses_at s.slots c.args.flow in
    let inv = c.loop-at.invariant in
    let all = take_all row inv.0 (walked next_of_flow resource_of s.uses row inv.0 c.loop-at.at inv.1.walk c.in_default.not-Some) in
    subst (λ xs. Shifts c.args.before c.args.after xs c.args.demands.now.items c.loop-at.demands.items) all inv.1.shifts

pub returns-clause-looks : goal.returns-clause-looks
returns-clause-looks g c =
    let s = c.args.system.now in
    let row = uses_at s.slots c.args.flow in
    let inv = c.loop-at.invariant in
    omega (arith, inv.1.looks, walked next_of_flow resource_of s.uses row inv.0 c.loop-at.at inv.1.walk c.in_default.not-Some)
