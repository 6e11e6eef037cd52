use Rattle.std.proofs.Common.{◌≡◌, ℕ, List, Option, None, Some, IfSome, sym, subst}
use Rattle.sg_maxmin_solve.specs.declared.limits.Low.{Low}
use Rattle.sg_maxmin.specs.Step.{IsLeast}
use Rattle.sg_maxmin_solve.specs.Filling.{AreTaken, IsFloor, IsUpTo, unfixed_bounds, waited_levels}
use Rattle.sg_maxmin_solve.proofs.Floors.{low_waited, over_least}
use Rattle.sg_maxmin_solve.proofs.Scanned.{taken_among, up_to}
use Rattle.sg_maxmin_solve.proofs.limits.lowest.Goals as goal

pub returns-in-Some-clause-low : goal.returns-in-Some-clause-low
returns-in-Some-clause-low c =
    let s = c.args.system.now in
    let f = c.args.filling.now in
    let touched = c.args.touched.now in
    let reached = c.args.reached.now in
    let low = c.in-Some.low in
    let level = c.least_level-least.result.level in
    let bounds = unfixed_bounds s.slots f.fixed.items touched in
    let h = c.least_level-least.ensures.level in
    let least = over_least low.level c.args.floor (waited_levels f.waiting.items f.levels.items reached) bounds (subst (λ (o : Option ℕ). IsLeast o (waited_levels f.waiting.items f.levels.items reached)) c.in-Some.ensures.0 h) c.requires.floor_is c.in-Some.ensures.2 in
    low_waited s f.fixed.items touched reached f.left.items f.waiting.items f.levels.items c.requires.joined c.requires.counted (Some low) (least, subst (λ (o : Option ℕ). IsFloor o bounds) (sym c.in-Some.ensures.1) c.requires.floor_is)

pub returns-in-None-clause-low : goal.returns-in-None-clause-low
returns-in-None-clause-low c =
    let s = c.args.system.now in
    let f = c.args.filling.now in
    let touched = c.args.touched.now in
    let reached = c.args.reached.now in
    let level = c.least_level-least.result.level in
    let bounds = unfixed_bounds s.slots f.fixed.items touched in
    let h = c.least_level-least.ensures.level in
    low_waited s f.fixed.items touched reached f.left.items f.waiting.items f.levels.items c.requires.joined c.requires.counted c.lesser.result
    (c.lesser.ensures.low (waited_levels f.waiting.items f.levels.items reached) bounds h (subst (λ (fs : List (Option ℕ)). IsLeast c.lowest_bound.result (unfixed_bounds s.slots fs touched)) c.deref.ensures.value c.lowest_bound.ensures))

pub returns-in-Some-clause-at : goal.returns-in-Some-clause-at
returns-in-Some-clause-at c =
    let out = c.least_level-least in
    let low = c.in-Some.low in
    taken_among c.args.reached.now c.args.filling.now out.result.level out.result.at low out.ensures.at (up_to low.level out.result.level c.in-Some.ensures.0) c.in-Some.ensures.3

pub returns-in-None-clause-at : goal.returns-in-None-clause-at
returns-in-None-clause-at c = each c.lesser.result c.lesser.ensures.at
  where
    each : (o : Option Low) → IfSome o (λ low. IsUpTo low.level c.least_level-least.result.level × (low.at ≡ c.least_level-least.result.at)) → IfSome o (λ low. AreTaken c.args.reached.now low c.args.filling.now)
    each None h = h
    each (Some low) h = taken_among c.args.reached.now c.args.filling.now c.least_level-least.result.level c.least_level-least.result.at low c.least_level-least.ensures.at h.0 h.1
