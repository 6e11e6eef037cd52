use Rattle.std.proofs.Common.{◌<◌, suc, length, get_or, sym, ◌∙◌, arith}
use Rattle.std.proofs.lemmas.List.Elements.{All-get_or}
use Rattle.sg_maxmin.specs.Sharing.{uses_at}
use Rattle.sg_maxmin.specs.Walk.{next_of_flow, resource_of}
use Rattle.sg_maxmin_levels.specs.Settling.{at_hold}
use Rattle.sg_maxmin.proofs.Listed.{in_at}
use Rattle.sg_maxmin.proofs.Users.{rows_exist}
use Rattle.sg_maxmin.proofs.Walked.{can_look, looked, walk_on, nearer}
use Rattle.sg_maxmin_levels.proofs.settling.has_cause.Goals as goal

pub bound_of-requires : goal.bound_of-requires
bound_of-requires g c = record { sound = c.requires.kept.places.sound; held = c.requires.held }

pub look-one-requires : goal.look-one-requires
look-one-requires g c =
    let s = c.args.system.now in
    let row = uses_at s.slots c.args.flow in
    let inv = c.loop-at.invariant in
    can_look next_of_flow resource_of s.uses row inv.0 c.loop-at.at inv.1.walk c.in-Some.i c.in-Some.is

pub loop-at-smaller : goal.loop-at-smaller
loop-at-smaller g c =
    let s = c.args.system.now in
    let row = uses_at s.slots c.args.flow in
    let inv = c.loop-at.invariant in
    nearer next_of_flow resource_of s.uses row inv.0 c.loop-at.at inv.1.walk c.in-Some.i c.look-one.result c.in-Some.is c.look-one.ensures.there

pub hold-requires : goal.hold-requires
hold-requires g c =
    let s = c.args.system.now in
    let row = uses_at s.slots c.args.flow in
    let inv = c.loop-at.invariant in
    let r = looked next_of_flow resource_of s.uses row inv.0 c.loop-at.at inv.1.walk c.in-Some.i c.look-one.result c.in-Some.is c.look-one.ensures.there in
    let below : get_or row inv.0 0 < length s.capacities = All-get_or (λ n. n < length s.capacities) row inv.0 0 r.less (rows_exist s c.requires.kept.places.sound c.args.flow) in
    omega (arith, below, r.is, c.requires.kept.places.holds)

pub returns-then-is_same-2-clause-cause : goal.returns-then-is_same-2-clause-cause
returns-then-is_same-2-clause-cause g c = λ t.
    let s = c.args.system.now in
    let row = uses_at s.slots c.args.flow in
    let inv = c.loop-at.invariant in
    let r = looked next_of_flow resource_of s.uses row inv.0 c.loop-at.at inv.1.walk c.in-Some.i c.look-one.result c.in-Some.is c.look-one.ensures.there in
    at_hold c.look-one.result.resource (in_at c.look-one.result.resource row inv.0 r.less (sym r.is)) (sym c.hold.ensures ∙ c.is_same-in-Some.ensures.same c.if-is_same-2.true)

pub returns-then-is_same-2-clause-looks : goal.returns-then-is_same-2-clause-looks
returns-then-is_same-2-clause-looks g c =
    let s = c.args.system.now in
    let row = uses_at s.slots c.args.flow in
    let inv = c.loop-at.invariant in
    let r = looked next_of_flow resource_of s.uses row inv.0 c.loop-at.at inv.1.walk c.in-Some.i c.look-one.result c.in-Some.is c.look-one.ensures.there in
    omega (arith, inv.1.looks, c.look-one.ensures.looks, r.less)

pub loop-at-preserved : goal.loop-at-preserved
loop-at-preserved g c =
    let s = c.args.system.now in
    let row = uses_at s.slots c.args.flow in
    let inv = c.loop-at.invariant in
    let r = looked next_of_flow resource_of s.uses row inv.0 c.loop-at.at inv.1.walk c.in-Some.i c.look-one.result c.in-Some.is c.look-one.ensures.there in (
      suc inv.0,
      record {
        walk = walk_on next_of_flow resource_of s.uses row inv.0 c.loop-at.at inv.1.walk c.in-Some.i c.look-one.result c.in-Some.is c.look-one.ensures.there;
        looks = omega (arith, inv.1.looks, c.look-one.ensures.looks);
      },
    )
