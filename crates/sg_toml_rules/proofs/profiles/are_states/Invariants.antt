use Rattle.std.proofs.Common.{◌≡◌, drop, is_some, map}
use Rattle.std.specs.List.{list_all}
use Rattle.sg_toml_rules.specs.Profiles.{state_in}
use Rattle.toml.specs.View.{view}
use Rattle.sg_toml_rules.proofs.profiles.are_states.Given as goal

abbrev pub invariant-loop-item : goal.invariant-loop-item
invariant-loop-item l = list_all (λ item. is_some (state_in item)) (map view (drop l.item-index l.items)) ≡ list_all (λ item. is_some (state_in item)) (map view l.items)
