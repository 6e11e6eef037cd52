use Rattle.std.proofs.Common.{◌≡◌, true, suc, IsSome, Some, get_or, below_more, refl, sym, ap, subst, ◌∙◌, arith}
use Rattle.sg_base.specs.MarkSet.{is_in}
use Rattle.sg_maxmin.specs.Chained.{users_on}
use Rattle.sg_maxmin.specs.Walk.{next_on, user_of}
use Rattle.sg_maxmin.specs.Sharing.{uses_at}
use Rattle.sg_maxmin.specs.Step.{IsLeast}
use Rattle.sg_maxmin_solve.specs.Filling.{fixed_at, limits_at}
use Rattle.sg_maxmin.proofs.Walked.{can_look, looked, walk_from, walk_on, nearer, walked}
use Rattle.sg_maxmin_solve.proofs.Fixing.{above_still, level_in, partly_on, partly_same, some_stays}
use Rattle.sg_maxmin.proofs.Listed.{in_at, same_in}
use Rattle.sg_maxmin.proofs.Users.{on_held}
use Rattle.sg_maxmin_solve.proofs.fixes.fix_users.Goals as goal

pub loop-at-init : goal.loop-at-init
loop-at-init g c =
    let s = c.args.system.now in (
      0,
      record {
        walk = walk_from next_on user_of s.uses (users_on s.users c.args.resource) c.first_on-at.result c.first_on-at.ensures.leads c.first_on-at.ensures.few;
        partly = partly_same s c.args.low c.args.filling.now c.requires.on.places;
        agenda = refl;
        holds = refl;
        done = λ i h. absurd (omega (arith, h));
        count = λ touched once there. record { counted = λ reached h. h; looks = omega arith };
      },
    )

pub look-one-requires : goal.look-one-requires
look-one-requires g c =
    let s = c.args.system.now in
    let inv = c.loop-at.invariant in
    can_look next_on user_of s.uses (users_on s.users c.args.resource) inv.0 c.loop-at.at inv.1.walk c.in-Some.i c.in-Some.is

pub loop-at-smaller : goal.loop-at-smaller
loop-at-smaller g c =
    let s = c.args.system.now in
    let inv = c.loop-at.invariant in
    nearer next_on user_of s.uses (users_on s.users c.args.resource) inv.0 c.loop-at.at inv.1.walk c.in-Some.i c.look-one.result c.in-Some.is c.look-one.ensures.there

pub fix_flow-requires-clause-of : goal.fix_flow-requires-clause-of
fix_flow-requires-clause-of g c =
    let s = c.args.system.now in
    let row = users_on s.users c.args.resource in
    let inv = c.loop-at.invariant in
    let r = looked next_on user_of s.uses row inv.0 c.loop-at.at inv.1.walk c.in-Some.i c.look-one.result c.in-Some.is c.look-one.ensures.there in
    let f = on_held s c.requires.on.places.sound c.args.resource c.look-one.result.flow (in_at c.look-one.result.flow row inv.0 r.less (sym r.is)) in
    record { places = inv.1.partly.places; held = subst IsSome (sym f.1) refl }

pub fix_flow-requires-clause-at : goal.fix_flow-requires-clause-at
fix_flow-requires-clause-at g c = λ none.
    let s = c.args.system.now in
    let row = users_on s.users c.args.resource in
    let inv = c.loop-at.invariant in
    let r = looked next_on user_of s.uses row inv.0 c.loop-at.at inv.1.walk c.in-Some.i c.look-one.result c.in-Some.is c.look-one.ensures.there in
    let id = c.look-one.result.flow in
    let user = in_at id row inv.0 r.less (sym r.is) in
    let used = same_in id c.args.resource row (uses_at s.slots id) (c.requires.on.places.sound.both id c.args.resource) user in (
      level_in s c.loop-at.filling.levels.items id c.args.resource c.args.low used (ap (λ xs. get_or xs c.args.resource 0) inv.1.partly.levels ∙ c.requires.level),
      above_still s row row c.args.low c.args.filling.now c.loop-at.filling inv.1.partly (λ n i. i) c.requires.on.above id user none,
    )

pub loop-at-preserved : goal.loop-at-preserved
loop-at-preserved g c =
    let s = c.args.system.now in
    let row = users_on s.users c.args.resource in
    let inv = c.loop-at.invariant in
    let k = inv.0 in
    let r = looked next_on user_of s.uses row k c.loop-at.at inv.1.walk c.in-Some.i c.look-one.result c.in-Some.is c.look-one.ensures.there in
    let out = c.fix_flow.ensures in
    let first = c.args.filling.now in
    let old = c.loop-at.filling in
    let new = c.fix_flow.new.filling in (
      suc k,
      record {
        walk = walk_on next_on user_of s.uses row k c.loop-at.at inv.1.walk c.in-Some.i c.look-one.result c.in-Some.is c.look-one.ensures.there;
        partly = partly_on s c.args.low first old new inv.1.partly out.fixes.fixes.partly;
        agenda = out.fixes.fixes.agenda ∙ inv.1.agenda;
        holds = out.fixes.fixes.holds ∙ inv.1.holds;
        done = λ i h. below_more _ _
            (λ i h. let id = get_or row i 0 in some_stays c.args.low (IsLeast (Some c.args.low) (limits_at s.slots old.levels.items id)) (fixed_at old.fixed.items id) (fixed_at new.fixed.items id) (out.fixes.fixes.partly.flows id) (inv.1.done i h))
            (subst (λ n. IsSome (fixed_at new.fixed.items n)) r.is out.done) i (omega (arith, h));
        count = λ touched once there.
            let a = inv.1.count touched once there in
            let b = out.fixes.count touched once (subst (λ n. is_in n touched ≡ true) (sym r.is) (there k r.less)) in
            record { counted = λ reached h. b.counted reached (a.counted reached h); looks = omega (arith, a.looks, b.looks, c.look-one.ensures.looks) };
      },
    )

pub returns-clause-done : goal.returns-clause-done
returns-clause-done g c =
    let s = c.args.system.now in
    let inv = c.loop-at.invariant in
    let end = walked next_on user_of s.uses (users_on s.users c.args.resource) inv.0 c.loop-at.at inv.1.walk c.in_default.not-Some in
    λ i h. inv.1.done i (omega (arith, h, end))

pub returns-clause-count : goal.returns-clause-count
returns-clause-count g c = λ touched once there.
    let s = c.args.system.now in
    let inv = c.loop-at.invariant in
    let end = walked next_on user_of s.uses (users_on s.users c.args.resource) inv.0 c.loop-at.at inv.1.walk c.in_default.not-Some in
    let a = inv.1.count touched once there in
    record { counted = a.counted; looks = omega (arith, a.looks, end) }

pub returns-clause-fixes : goal.returns-clause-fixes
returns-clause-fixes g c = let inv = c.loop-at.invariant.1 in record { partly = inv.partly; agenda = inv.agenda; holds = inv.holds }
