use Rattle.std.proofs.Common.{◌+◌, ◌*◌, ◌<◌, ◌≤◌, suc, length, take, get_or, ap, ◌∙◌, arith}
use Rattle.std.proofs.lemmas.List.Elements.{All-get_or}
use Rattle.sg_maxmin.specs.Chained.{times}
use Rattle.sg_maxmin.specs.Sharing.{uses_at}
use Rattle.sg_maxmin.specs.Walk.{next_of_flow, resource_of}
use Rattle.sg_maxmin.proofs.Walked.{can_look, looked, walk_on, nearer, walked}
use Rattle.sg_maxmin_solve.proofs.Walked.{add_more, room_more}
use Rattle.sg_maxmin.proofs.Listed.{take_all}
use Rattle.sg_maxmin.proofs.Users.{weight_is}
use Rattle.sg_maxmin_solve.proofs.filling.add_uses.Goals as goal

pub look-one-requires : goal.look-one-requires
look-one-requires g c =
    let s = c.args.system.now in
    let inv = c.loop-at.invariant in
    can_look next_of_flow resource_of s.uses (uses_at s.slots c.args.flow) inv.0 c.loop-at.at inv.1.walk c.in-Some.i c.in-Some.is

pub loop-at-smaller : goal.loop-at-smaller
loop-at-smaller g c =
    let s = c.args.system.now in
    let inv = c.loop-at.invariant in
    nearer next_of_flow resource_of s.uses (uses_at s.slots c.args.flow) inv.0 c.loop-at.at inv.1.walk c.in-Some.i c.look-one.result c.in-Some.is c.look-one.ensures.there

pub returns-clause-looks : goal.returns-clause-looks
returns-clause-looks g c =
    let s = c.args.system.now in
    let inv = c.loop-at.invariant in
    omega (arith, inv.1.looks, walked next_of_flow resource_of s.uses (uses_at s.slots c.args.flow) inv.0 c.loop-at.at inv.1.walk c.in_default.not-Some)

pub add-requires-clause-resource : goal.add-requires-clause-resource
add-requires-clause-resource g c =
    let s = c.args.system.now in
    let row = uses_at s.slots c.args.flow in
    let inv = c.loop-at.invariant in
    let k = inv.0 in
    let r = looked next_of_flow resource_of s.uses row k c.loop-at.at inv.1.walk c.in-Some.i c.look-one.result c.in-Some.is c.look-one.ensures.there in
    let below : get_or row k 0 < length c.args.waiting.now = All-get_or (λ n. n < length c.args.waiting.now) row k 0 r.less c.requires.exist in
    omega (arith, below, r.is, c.loop-at.auto.waiting)

pub add-requires-clause-fits : goal.add-requires-clause-fits
add-requires-clause-fits g c =
    let s = c.args.system.now in
    let row = uses_at s.slots c.args.flow in
    let inv = c.loop-at.invariant in
    let k = inv.0 in
    let r = looked next_of_flow resource_of s.uses row k c.loop-at.at inv.1.walk c.in-Some.i c.look-one.result c.in-Some.is c.look-one.ensures.there in
    let one = c.look-one.result.resource in
    let is = weight_is s.slots c.args.flow c.weight-weight.result c.requires.held c.weight-weight.ensures in
    let more : times one (take k row) * c.weight-weight.result + c.weight-weight.result ≤ times one row * c.weight-weight.result = room_more row k one c.weight-weight.result r.less r.is in
    omega (arith, inv.1.waiting one, more, ap (λ w. times one row * w) is, c.requires.fits one)

pub loop-at-preserved : goal.loop-at-preserved
loop-at-preserved g c =
    let s = c.args.system.now in
    let row = uses_at s.slots c.args.flow in
    let inv = c.loop-at.invariant in
    let k = inv.0 in
    let r = looked next_of_flow resource_of s.uses row k c.loop-at.at inv.1.walk c.in-Some.i c.look-one.result c.in-Some.is c.look-one.ensures.there in
    let old = c.loop-at.waiting in
    let below : get_or row k 0 < length c.args.waiting.now = All-get_or (λ n. n < length c.args.waiting.now) row k 0 r.less c.requires.exist in
    let in' : c.look-one.result.resource < length old = omega (arith, below, r.is, c.loop-at.auto.waiting) in (
      suc k,
      record {
        walk = walk_on next_of_flow resource_of s.uses row k c.loop-at.at inv.1.walk c.in-Some.i c.look-one.result c.in-Some.is c.look-one.ensures.there;
        waiting = λ x. ap (λ xs. get_or xs x 0) c.add.ensures ∙ add_more old c.args.waiting.now row k c.look-one.result.resource c.weight-weight.result x r.less r.is in' inv.1.waiting;
        looks = omega (arith, inv.1.looks, c.look-one.ensures.looks);
      },
    )

pub returns-clause-waiting : goal.returns-clause-waiting
returns-clause-waiting g c = λ x.
    let s = c.args.system.now in
    let row = uses_at s.slots c.args.flow in
    let inv = c.loop-at.invariant in
    let k = inv.0 in
    let all = take_all row k (walked next_of_flow resource_of s.uses row k c.loop-at.at inv.1.walk c.in_default.not-Some) in
    inv.1.waiting x ∙ ap (λ xs. get_or c.args.waiting.now x 0 + times x xs * c.weight-weight.result) all
    ∙ ap (λ n. get_or c.args.waiting.now x 0 + times x row * n) (weight_is s.slots c.args.flow c.weight-weight.result c.requires.held c.weight-weight.ensures)
