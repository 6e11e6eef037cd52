use Rattle.std.proofs.Common.{option_map, ap₂, ◌∙◌, arith}
use Rattle.sg_maxmin.specs.Fill.{bound_level}
use Rattle.sg_maxmin.proofs.Users.{bound_is, weight_is, weighs}
use Rattle.sg_maxmin_levels.proofs.settling.bound_of.Goals as goal

pub level_of_bound-requires : goal.level_of_bound-requires
level_of_bound-requires c =
    let s = c.args.system.now in
    omega (arith, weight_is s.slots c.args.flow c.weight.result c.requires.held c.weight.ensures, (weighs s c.requires.sound c.args.flow).0)

pub returns : goal.returns
returns c =
    let s = c.args.system.now in
    c.level_of_bound.ensures
    ∙ ap₂ (λ w b. option_map (bound_level w) b) (weight_is s.slots c.args.flow c.weight.result c.requires.held c.weight.ensures) (bound_is s.slots c.args.flow c.bound.result c.requires.held c.bound.ensures)
