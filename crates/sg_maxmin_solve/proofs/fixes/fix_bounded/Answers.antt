use Rattle.std.proofs.Common.{◌≡◌, option_map, sym, ap, ◌∙◌, arith}
use Rattle.sg_maxmin.specs.Fill.{bound_level}
use Rattle.sg_maxmin.specs.Numbered.{bound_at}
use Rattle.sg_maxmin_solve.specs.Filling.{bound_limit}
use Rattle.sg_maxmin_solve.proofs.Fixing.{bound_in, fixes_same, in_one_self}
use Rattle.sg_maxmin.proofs.Users.{bound_is, weighs, weight_is}
use Rattle.sg_maxmin_solve.proofs.fixes.fix_bounded.Goals as goal

pub level_of_bound-limit-requires : goal.level_of_bound-limit-requires
level_of_bound-limit-requires g c =
    let s = c.args.system.now in
    omega (arith, weight_is s.slots c.args.flow c.weight.result c.requires.of.held c.weight.ensures, (weighs s c.requires.of.places.sound c.args.flow).0)

pub fix_flow-requires-clause-at : goal.fix_flow-requires-clause-at
fix_flow-requires-clause-at g c = λ none.
    let slots = c.args.system.now.slots in
    let flow = c.args.flow in
    let e : bound_limit slots flow ≡ c.level_of_bound-limit.result =
    ap (λ w. option_map (bound_level w) (bound_at slots flow)) (sym (weight_is slots flow c.weight.result c.requires.of.held c.weight.ensures))
    ∙ ap (λ b. option_map (bound_level c.weight.result) b) (sym (bound_is slots flow c.bound.result c.requires.of.held c.bound.ensures)) ∙ sym c.level_of_bound-limit.ensures in (
      bound_in c.args.system.now c.args.filling.now.levels.items flow c.args.low (e ∙ c.is_limit.ensures.at c.if-is_limit.true),
      λ x k. c.requires.above flow (in_one_self flow) none x k,
    )

pub returns-else-is_limit-clause-fixes : goal.returns-else-is_limit-clause-fixes
returns-else-is_limit-clause-fixes g c = fixes_same c.args.system.now c.args.flow c.args.low c.args.filling.now c.args.steps.now c.requires.of.places

pub returns-else-is_limit-clause-done : goal.returns-else-is_limit-clause-done
returns-else-is_limit-clause-done g c = λ at.
    let slots = c.args.system.now.slots in
    let flow = c.args.flow in
    let e : bound_limit slots flow ≡ c.level_of_bound-limit.result =
    ap (λ w. option_map (bound_level w) (bound_at slots flow)) (sym (weight_is slots flow c.weight.result c.requires.of.held c.weight.ensures))
    ∙ ap (λ b. option_map (bound_level c.weight.result) b) (sym (bound_is slots flow c.bound.result c.requires.of.held c.bound.ensures)) ∙ sym c.level_of_bound-limit.ensures in
    absurd (c.is_limit.ensures.off c.if-is_limit.false (sym e ∙ at))

pub returns-then-is_some-clause-fixes : goal.returns-then-is_some-clause-fixes
returns-then-is_some-clause-fixes g c = fixes_same c.args.system.now c.args.flow c.args.low c.args.filling.now c.args.steps.now c.requires.of.places
