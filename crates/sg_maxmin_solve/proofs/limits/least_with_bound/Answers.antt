use Rattle.std.proofs.Common.{◌≡◌, ◌++◌, ℕ, Option, Some, option_map, option_to_list, sym, ap, subst, ◌∙◌, arith}
use Rattle.sg_maxmin.specs.Fill.{bound_level}
use Rattle.sg_maxmin.specs.Numbered.{bound_at}
use Rattle.sg_maxmin.specs.Step.{IsLeast, least_with}
use Rattle.sg_maxmin_solve.specs.Filling.{bound_limit}
use Rattle.sg_maxmin.proofs.Users.{bound_is, weighs, weight_is}
use Rattle.sg_maxmin.proofs.Least.{least_push}
use Rattle.sg_maxmin_solve.proofs.limits.least_with_bound.Goals as goal

pub level_of_bound-requires : goal.level_of_bound-requires
level_of_bound-requires c =
    let s = c.args.system.now in
    omega (arith, weight_is s.slots c.args.flow c.weight.result c.requires.held c.weight.ensures, (weighs s c.requires.sound c.args.flow).0)

pub returns-in-Some : goal.returns-in-Some
returns-in-Some c = λ list h.
    let s = c.args.system.now in
    let flow = c.args.flow in
    let e : bound_limit s.slots flow ≡ Some c.in-Some.limit =
    ap (λ w. option_map (bound_level w) (bound_at s.slots flow)) (sym (weight_is s.slots flow c.weight.result c.requires.held c.weight.ensures))
    ∙ ap (λ b. option_map (bound_level c.weight.result) b) (sym (bound_is s.slots flow c.bound.result c.requires.held c.bound.ensures)) ∙ sym c.in-Some.ensures in
    rw c.smaller.ensures (subst (λ (o : Option ℕ). IsLeast (Some (least_with c.args.least c.in-Some.limit)) (list ++ option_to_list o)) (sym e) (least_push c.args.least list c.in-Some.limit h))
