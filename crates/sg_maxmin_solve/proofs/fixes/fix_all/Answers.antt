use Rattle.std.proofs.Common.{Some, get_or, refl, arith}
use Rattle.sg_maxmin.specs.Chained.{users_on}
use Rattle.sg_maxmin.specs.Step.{IsLeast}
use Rattle.sg_maxmin_solve.specs.Filling.{fixed_at, limits_at}
use Rattle.sg_maxmin_solve.proofs.Fixing.{above_still, all_at, fixed_stay, may_step, partly_on}
use Rattle.sg_maxmin_solve.proofs.Floors.{floor_partly}
use Rattle.sg_maxmin_solve.proofs.Notes.{notes_kept, untaken_same}
use Rattle.sg_maxmin.proofs.Listed.{in_at}
use Rattle.sg_maxmin_solve.proofs.fixes.fix_all.Goals as goal

pub fix_all_bounded-requires : goal.fix_all_bounded-requires
fix_all_bounded-requires g c =
    let s = c.args.system.now in
    let touched = c.args.touched.now in
    let low = c.args.low in
    let first = c.args.filling.now in
    let mid = c.fix_all_users.new.filling in
    let partly = c.fix_all_users.ensures.partly in
    let at = c.requires.at in
    record {
      part = at.joined.part;
      once = at.joined.once;
      places = partly.places;
      above = above_still s touched touched low.level first mid partly (λ id i. i) at.above;
      floor_is = floor_partly low.floor s low.level first mid touched partly at.floor;
    }

pub returns-clause-partly : goal.returns-clause-partly
returns-clause-partly g c =
    partly_on c.args.system.now c.args.low.level c.args.filling.now c.fix_all_users.new.filling c.fix_all_bounded.new.filling c.fix_all_users.ensures.partly c.fix_all_bounded.ensures.fixes.partly

pub returns-clause-stepped : goal.returns-clause-stepped
returns-clause-stepped g c = λ i h.
    let s = c.args.system.now in
    let touched = c.args.touched.now in
    let reached = c.args.reached.now in
    let f = get_or touched i 0 in
    let low = c.args.low.level in
    let first = c.args.filling.now in
    let mid = c.fix_all_users.new.filling in
    let new = c.fix_all_bounded.new.filling in
    let partly = partly_on s low first mid new c.fix_all_users.ensures.partly c.fix_all_bounded.ensures.fixes.partly in
    may_step low (IsLeast (Some low) (limits_at s.slots first.levels.items f)) (fixed_at first.fixed.items f) (fixed_at new.fixed.items f) (partly.flows f)
    (all_at s touched reached first.levels.items new low f c.requires.at.joined (in_at f touched i h refl)
    (λ k l e. fixed_stay s low (users_on s.users (get_or reached k 0)) mid new c.fix_all_bounded.ensures.fixes.partly (c.fix_all_users.ensures.on k l e)) (c.fix_all_bounded.ensures.bounds i h))

pub returns-clause-count : goal.returns-clause-count
returns-clause-count g c =
    let a = c.fix_all_users.ensures.count in
    let b = c.fix_all_bounded.ensures.count in
    record { counted = λ r h. b.counted r (a.counted r h); looks = omega (arith, a.looks, b.looks, untaken_same c.args.system.now c.args.reached.now c.fix_all_users.new.filling c.fix_all_bounded.new.filling c.fix_all_bounded.ensures.fixes.holds) }

pub returns-clause-noted : goal.returns-clause-noted
returns-clause-noted g c = notes_kept c.args.reached.now c.args.low.level c.args.filling.now c.fix_all_users.new.filling c.fix_all_bounded.new.filling c.fix_all_users.ensures.noted c.fix_all_bounded.ensures.fixes.holds
