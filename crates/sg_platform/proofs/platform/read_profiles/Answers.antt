use Rattle.std.proofs.Common.{◌∙◌, ap, codes, map, refl}
use Rattle.sg_platform.specs.Build.{state_profile_row}
use Rattle.sg_toml_tree.specs.kept.NamesView.{names_view}
use Rattle.sg_platform.proofs.platform.read_profiles.Goals as goal

pub returns-clause-state_profiles : goal.returns-clause-state_profiles
returns-clause-state_profiles c =
    c.in_ok-state_profiles.ensures.rows ∙ ap (map (state_profile_row (names_view c.args.names.now))) (c.in_ok-profiles.ensures.others (codes "state_profile") (refl, tt))
