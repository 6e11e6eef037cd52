use Rattle.std.proofs.Common.{◌≡◌, false, map, take, unwrap_or}
use Rattle.sg_toml_rules.specs.Profiles.{state_in}
use Rattle.toml.specs.View.{view}
use Rattle.sg_platform.proofs.build.states_at.Given as goal

abbrev pub invariant-loop-item : goal.invariant-loop-item
invariant-loop-item l = l.made.items ≡ map (λ item. unwrap_or (state_in item) false) (map view (take l.item-index l.items))
